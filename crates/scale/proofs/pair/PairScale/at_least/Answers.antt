use Rattle.scale.proofs.Pairs.{by_second}
use Rattle.scale.proofs.pair.PairScale.at_least.Goals as goal

pub returns-else-not-at_least : goal.returns-else-not-at_least
returns-else-not-at_least g c =
    by_second g.A.Scale.meaning g.B.Scale.meaning g.met.A.Scale.laws c.args.self c.args.other _
    (c.at_least.ensures.0 c.if-at_least.true) (c.at_least-then-at_least.ensures.0 c.if-not-at_least.false) c.at_least-else-not-at_least.ensures
