use Rattle.std.proofs.Common.{ap, replicate}
use Rattle.walk.proofs.Grants.{granted}
use Rattle.walk.proofs.grant.write_grant.Goals as goal

pub put_in_order-requires-clause-unnumbered : goal.put_in_order-requires-clause-unnumbered
put_in_order-requires-clause-unnumbered g c = ap (replicate 32768) c.none.ensures

pub returns-clause-granted : goal.returns-clause-granted
returns-clause-granted g c =
    rw c.len.ensures.value
    (granted c.put_in_order.ensures c.args.steps.now c.write_steps.new.steps c.write_steps.ensures)
