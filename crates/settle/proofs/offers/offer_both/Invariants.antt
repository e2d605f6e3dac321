use Rattle.std.proofs.Common.{length}
use Rattle.scale.specs.Scale.{combined}
use Rattle.settle.specs.Entries.{entry_at, taken, in_row, Front}
use Rattle.settle.proofs.offers.offer_both.Given as goal

abbrev pub invariant-loop-member : goal.invariant-loop-member
invariant-loop-member g l =
    let m = g.S.Scale.meaning in
    Front (length l.yielded) (λ x. taken m (combined m (in_row l.fn.first x) (in_row l.fn.second x)) l.reason) (entry_at l.initial.weights l.initial.reasons) (entry_at l.weights l.reasons)
