use Rattle.std.proofs.Common.{◌-◌, ◌*◌, length}
use Rattle.walk.proofs.Walks.{Walking}
use Rattle.walk.proofs.order.put_in_order.Given as goal

abbrev pub invariant-loop-top : goal.invariant-loop-top
invariant-loop-top g l = Walking (g.G.Reasons.leads l.reasons) (g.G.Reasons.cells l.reasons) l.goal l.order.numbers l.stack.items l.order.cells.items

-- a push takes one, and a cell that is done takes two and gives one back
abbrev pub decreases-loop-top : goal.decreases-loop-top
decreases-loop-top g l = 2 * (g.G.Reasons.cells l.reasons - length l.order.cells.items) - length l.stack.items
