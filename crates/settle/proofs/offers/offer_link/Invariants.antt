use Rattle.source.specs.Shows.{stated}
use Rattle.rules.specs.Cells.{heads}
use Rattle.settle.specs.Entries.{entry_at}
use Rattle.settle.specs.Moves.{flags}
use Rattle.settle.proofs.Bodies.{Through}
use Rattle.settle.proofs.offers.offer_link.Given as goal

abbrev pub invariant-loop-k : goal.invariant-loop-k
invariant-loop-k g l =
    let admitted = l.round.admitted.now in
    Through g.S.Scale.meaning (heads (stated (g.R.Source.shows admitted.source.now))) admitted.entities l.round.former.now (flags l.round.changed) l.place l.fn.role l.name l.k (entry_at l.initial.weights l.initial.reasons) (entry_at l.weights l.reasons)
