use Rattle.std.proofs.Common.{◌≡◌, ◌<◌, ◌||◌, None, sym, ◌∙◌, arith}
use Rattle.std.proofs.lemmas.List.{get_or_read}
use Rattle.rules.specs.Cells.{heads, number}
use Rattle.rules.specs.Ways.{belongs, role_of}
use Rattle.source.specs.Shows.{stated}
use Rattle.settle.specs.Entries.{entry_at, in_row, shown}
use Rattle.settle.specs.Moves.{flag_of, flags}
use Rattle.settle.proofs.Bodies.{read_in, no_link, link_offered, link_skipped}
use Rattle.settle.proofs.offers.offer_link.Goals as goal
use Rattle.settle.proofs.offers.offer_link.Goals.{then-either_moved, else-either_moved}

pub returns-in_default : goal.returns-in_default
returns-in_default g c =
    let m = g.S.Scale.meaning in
    let round = c.args.round.now in
    let E = round.admitted.now.entities in
    let rs = heads (stated (g.R.Source.shows round.admitted.now.source.now)) in
    let read = read_in m g.met.S.Scale.laws rs E round.former.now (flags round.changed) c.args.role c.head_of-head.result c.row.result c.head_of-head.ensures.value c.row.ensures in
    no_link m g.met.S.Scale.laws rs E round.former.now (flags round.changed) c.args.place c.args.role c.args.name (entry_at c.args.weights.now c.args.reasons.now) (λ k l. sym (rw c.in_default.is at (read k l)))

pub loop-k-preserved : goal.loop-k-preserved
loop-k-preserved g c =
    let m = g.S.Scale.meaning in
    let round = c.args.round.now in
    let E = round.admitted.now.entities in
    let rs = heads (stated (g.R.Source.shows round.admitted.now.source.now)) in
    let ch = flags round.changed in
    let k = c.loop-k.k in
    let second = role_of k c.args.name in
    let read = read_in m g.met.S.Scale.laws rs E round.former.now ch in
    let l : k < E = omega (arith, rw c.in-Some.is at c.row.ensures.long) in
    let tested : c.either_moved.result ≡ (flag_of ch (number rs c.args.role) || flag_of ch (number rs second)) = cc in
    let near : c.index-middles-k.result ≡ shown rs E round.former.now (belongs c.args.role k) = get_or_read c.in-Some.middles.now k c.index-middles-k.result (omega arith) c.index-middles-k.is None ∙ rw c.in-Some.is at (read c.args.role c.head_of-head.result c.row.result c.head_of-head.ensures.value c.row.ensures k l) in
    elim c.if-either_moved.branch [
      | then-either_moved w ↦
          rw (w.weights-is, w.reasons-is) (link_offered m g.met.S.Scale.laws rs E round.former.now ch c.args.place c.args.role c.args.name k c.index-middles-k.result (in_row w.row-then-either_moved.result) (entry_at c.args.weights.now c.args.reasons.now) (entry_at c.loop-k.weights c.loop-k.reasons) (entry_at w.offer_row.new.weights w.offer_row.new.reasons) (sym tested ∙ w.if-either_moved.true) near (read second c.head_of-second.result w.row-then-either_moved.result c.head_of-second.ensures.value w.row-then-either_moved.ensures) c.loop-k.invariant (rw (c.loop-k.auto.weights ∙ c.requires.weights_long) at w.offer_row.ensures))
      | else-either_moved w ↦
          rw (w.weights-is, w.reasons-is) (link_skipped m g.met.S.Scale.laws rs E round.former.now ch c.args.place c.args.role c.args.name k (entry_at c.args.weights.now c.args.reasons.now) (entry_at c.loop-k.weights c.loop-k.reasons) (sym tested ∙ w.if-either_moved.false) c.loop-k.invariant)
    ]
