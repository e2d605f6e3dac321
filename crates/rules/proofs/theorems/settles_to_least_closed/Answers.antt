use Rattle.rules.proofs.Settling.{least_closed}
use Rattle.rules.proofs.theorems.settles_to_least_closed.Goals as goal

pub returns : goal.returns
returns g c = least_closed g.S.Scale.meaning g.met.S.Scale.laws
