use Rattle.settle.specs.Moves.{Noted}
use Rattle.settle.proofs.changes.note_changes.Given as goal

abbrev pub invariant-loop-head : goal.invariant-loop-head
invariant-loop-head g l = Noted g.S.Scale.meaning l.entities l.head l.former l.latest l.changed l.any
