use Rattle.std.proofs.Common.{◌≡◌, true, ◌||◌}
use Rattle.rules.specs.Cells.{heads, number}
use Rattle.source.specs.Shows.{stated}
use Rattle.settle.specs.Entries.{entry_at, in_row}
use Rattle.settle.specs.Moves.{flag_of, flags}
use Rattle.settle.proofs.Bodies.{read_in, by_delegation, by_intersection}
use Rattle.settle.proofs.offers.offer_body.Goals as goal

pub returns-then-has_moved : goal.returns-then-has_moved
returns-then-has_moved g c =
    let m = g.S.Scale.meaning in
    let round = c.args.round.now in
    let E = round.admitted.now.entities in
    let rs = heads (stated (g.R.Source.shows round.admitted.now.source.now)) in
    let b = c.in-Delegation.b in
    let moved : flag_of (flags round.changed) (number rs b) ≡ true = cc in
    rw c.in-Delegation.is (by_delegation m g.met.S.Scale.laws rs E round.former.now (flags round.changed) c.args.place b c.full.result (in_row c.row.result) (entry_at c.args.weights.now c.args.reasons.now) (entry_at c.offer_row.new.weights c.offer_row.new.reasons) c.full.ensures moved (read_in m g.met.S.Scale.laws rs E round.former.now (flags round.changed) b c.head_of-head.result c.row.result c.head_of-head.ensures.value c.row.ensures) (rw c.requires.weights_long at c.offer_row.ensures))

pub returns-then-either_moved : goal.returns-then-either_moved
returns-then-either_moved g c =
    let m = g.S.Scale.meaning in
    let round = c.args.round.now in
    let E = round.admitted.now.entities in
    let rs = heads (stated (g.R.Source.shows round.admitted.now.source.now)) in
    let b = c.in-Intersection.b in
    let d = c.in-Intersection.d in
    let moved : (flag_of (flags round.changed) (number rs b) || flag_of (flags round.changed) (number rs d)) ≡ true = cc in
    let read = read_in m g.met.S.Scale.laws rs E round.former.now (flags round.changed) in
    rw c.in-Intersection.is (by_intersection m g.met.S.Scale.laws rs E round.former.now (flags round.changed) c.args.place b d (in_row c.row-then-either_moved.result) (in_row c.row-then-either_moved-2.result) (entry_at c.args.weights.now c.args.reasons.now) (entry_at c.offer_both.new.weights c.offer_both.new.reasons) moved (read b c.head_of-first.result c.row-then-either_moved.result c.head_of-first.ensures.value c.row-then-either_moved.ensures) (read d c.head_of-second.result c.row-then-either_moved-2.result c.head_of-second.ensures.value c.row-then-either_moved-2.ensures) (rw c.requires.weights_long at c.offer_both.ensures))
