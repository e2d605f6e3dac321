use Rattle.rules.proofs.Steps.{derivations_below, derivation_reaches}
use Rattle.rules.proofs.theorems.derivations_weigh_the_settled.Goals as goal

pub returns : goal.returns
returns g c = record {
  below = derivations_below g.S.Scale.meaning g.met.S.Scale.laws;
  reach = derivation_reaches g.S.Scale.meaning g.met.S.Scale.laws g.met.S.Scale.chooses;
}
