use Rattle.rules.proofs.Earning.{reasons_weigh}
use Rattle.rules.proofs.theorems.reasons_weigh_their_entries.Goals as goal

pub returns : goal.returns
returns g c = reasons_weigh g.S.Scale.meaning g.met.S.Scale.laws
