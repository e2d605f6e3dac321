use Rattle.rules.proofs.Settling.{rounds_bounded}
use Rattle.rules.proofs.theorems.rounds_are_bounded.Goals as goal

pub returns : goal.returns
returns g c = rounds_bounded g.S.Scale.meaning g.met.S.Scale.laws
