use Rattle.std.proofs.Common.{◌≡◌, ◌++◌, map, take, drop}
use Rattle.walk.specs.Grant.{numbered}
use Rattle.walk.proofs.order.Order.write_steps.Given as goal

abbrev pub invariant-loop-k : goal.invariant-loop-k
invariant-loop-k g l = l.steps ≡ map (λ c. numbered l.self.numbers (g.G.Reasons.leads l.reasons c)) (take l.k l.cell-items) ++ drop l.k l.initial.steps
