use Rattle.std.proofs.Common.{rules}
use Rattle.walk.proofs.Grants.{wrote_more}
use Rattle.walk.proofs.order.Order.write_steps.Goals as goal

pub loop-k-preserved : goal.loop-k-preserved
loop-k-preserved g c = search (rules, wrote_more)
