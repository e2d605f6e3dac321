use Rattle.std.proofs.Common.{◌≡◌, ◌++◌, length, filter}
use Rattle.rules.specs.Cells.{heads}
use Rattle.rules.specs.Ways.{ways_from}
use Rattle.source.specs.Shows.{stated}
use Rattle.settle.specs.Entries.{entry_at, offered, shown, Spread}
use Rattle.settle.specs.Moves.{flags, worth}
use Rattle.settle.proofs.rounds.offer_all.Given as goal

abbrev pub invariant-loop-place : goal.invariant-loop-place
invariant-loop-place g l =
    let m = g.S.Scale.meaning in
    let E = l.round.admitted.now.entities in
    let cs = stated (g.R.Source.shows l.round.admitted.now.source.now) in
    record {
      all : cs ≡ l.yielded ++ l.c-iterator;
      place : l.place ≡ length l.yielded;
      offered_so_far : Spread (heads cs) E (λ q. offered m (shown (heads cs) E l.round.former.now) (filter (worth (heads cs) (flags l.round.changed)) (ways_from m E 0 l.yielded q))) (entry_at l.initial.latest l.initial.reasons) (entry_at l.latest l.reasons);
    }
