use Rattle.std.proofs.Common.{◌≡◌, ◌≤◌, length, None, refl, ◌∙◌, arith, below_more, length-take}
use Rattle.std.proofs.lemmas.List.{length-replicate}
use Rattle.rules.specs.Cells.{heads}
use Rattle.source.specs.Shows.{stated}
use Rattle.rules.specs.Tables.{no_reason}
use Rattle.heads.proofs.Fewer.{heads_fewer}
use Rattle.settle.specs.Moves.{flags}
use Rattle.settle.proofs.Turns.{Turn, first_list, unmoved_then, none_first, last_later, latest_next, reasons_next, unmoved_next, gained, former_next, ended, not_last}
use Rattle.settle.proofs.settling.settle.Goals as goal
use Rattle.settle.proofs.settling.settle.Goals.{After-count, After-offer_all}
use Rattle.settle.proofs.settling.settle.Given as given

-- a flag for each head
many : (g : given.Over) (c : After-count g) → c.count.result ≡ length (heads (stated (g.R.Source.shows c.args.admitted.now.source.now)))
many g c = c.count.ensures ∙ c.args.admitted.now.indexed.count

few : (g : given.Over) (c : After-count g) → c.count.result ≤ 512
few g c = omega (arith, many g c, heads_fewer (stated (g.R.Source.shows c.args.admitted.now.source.now)), c.args.admitted.now.short)

pub slice_bounds-flags-end : goal.slice_bounds-flags-end
slice_bounds-flags-end g c = few g (goal.at.slice_bounds-flags-end g c).After-count

pub slice_bounds-changed-end : goal.slice_bounds-changed-end
slice_bounds-changed-end g c =
    let h = few g (goal.at.slice_bounds-changed-end g c).After-count in
    simp (length-take, length-replicate) (omega arith)

pub rounds-init : goal.rounds-init
rounds-init g c =
    let admitted = c.args.admitted.now in
    let rs = heads (stated (g.R.Source.shows admitted.source.now)) in
    let at = (goal.at.rounds-init g c).After-count in
    let h = few g at in
    record {
      former_is = first_list admitted.entities rs None c.fill.new.list (length c.args.former.now) c.requires.former_long c.fill.ensures;
      latest_is = first_list admitted.entities rs None c.fill-2.new.list (length c.args.latest.now) c.requires.latest_long c.fill-2.ensures;
      reasons_is = first_list admitted.entities rs no_reason c.fill-3.new.list (length c.args.reasons.now) c.requires.reasons_long c.fill-3.ensures;
      unmoved = λ r h x e f l. refl;
      flags_long = simp (length-take, length-replicate) (omega (arith, many g at));
      few = omega arith;
      earlier = λ k h. absurd (omega arith);
    }

-- the turn, where a round has been made
turn : (g : given.Over) (c : After-offer_all g) → Turn g.S.Scale.meaning c.args.admitted.now.entities (stated (g.R.Source.shows c.args.admitted.now.source.now)) c.rounds.rounds c.rounds.former c.rounds.latest c.rounds.reasons (flags c.then_some-moved.result) c.offer_all.new.latest c.offer_all.new.reasons
turn g c =
    let E = c.args.admitted.now.entities in
    let cs = stated (g.R.Source.shows c.args.admitted.now.source.now) in
    let i = c.rounds.invariant in
    let first = none_first c.rounds.rounds _ c.then_some-moved.result c.then_some-moved.ensures in
    record {
      former_is = i.former_is;
      before_is = i.latest_is;
      why_is = i.reasons_is;
      unmoved = unmoved_then g.S.Scale.meaning E cs c.rounds.rounds c.rounds.changed (flags c.then_some-moved.result) i.unmoved first (last_later c.rounds.rounds _ c.then_some-moved.result c.then_some-moved.ensures);
      first = first;
      latest_long = omega arith;
      reasons_long = omega arith;
      spread = c.offer_all.ensures;
    }

pub returns-then-not-note_changes : goal.returns-then-not-note_changes
returns-then-not-note_changes g c =
    let t = turn g (goal.at.returns-then-not-note_changes g c).After-offer_all in
    let laws = g.met.S.Scale.laws in
    let known = c.args.admitted.now.known in
    let n = length c.rounds.changed in
    let flagged = c.note_changes.new.changed in
    let any = c.note_changes.result in
    let none = c.if-not-note_changes.true in
    record {
      former = former_next laws known t n flagged any c.rounds.invariant.flags_long c.note_changes.ensures none;
      latest = latest_next laws known t;
      reasons = reasons_next laws known t g.met.S.Scale.chooses;
      settles = ended laws known t n flagged any c.rounds.invariant.flags_long c.note_changes.ensures none c.rounds.invariant.earlier;
    }

pub rounds-smaller : goal.rounds-smaller
rounds-smaller g c =
    let t = turn g (goal.at.rounds-smaller g c).After-offer_all in
    omega (arith, not_last g.met.S.Scale.laws c.args.admitted.now.known t (length c.rounds.changed) c.note_changes.new.changed c.note_changes.result c.rounds.invariant.flags_long c.note_changes.ensures c.if-not-note_changes.false)

pub rounds-preserved : goal.rounds-preserved
rounds-preserved g c =
    let t = turn g (goal.at.rounds-preserved g c).After-offer_all in
    let laws = g.met.S.Scale.laws in
    let known = c.args.admitted.now.known in
    let i = c.rounds.invariant in
    let n = length c.rounds.changed in
    let flagged = c.note_changes.new.changed in
    let any = c.note_changes.result in
    let some = c.if-not-note_changes.false in
    let next = latest_next laws known t in
    record {
      former_is = c.copy_from_slice.ensures.after ∙ next;
      latest_is = next;
      reasons_is = reasons_next laws known t g.met.S.Scale.chooses;
      unmoved = unmoved_next laws known t n flagged any i.flags_long c.note_changes.ensures;
      flags_long = c.note_changes.auto.changed ∙ i.flags_long;
      few = omega (arith, not_last laws known t n flagged any i.flags_long c.note_changes.ensures some);
      earlier = below_more _ _ i.earlier (gained laws known t n flagged any i.flags_long c.note_changes.ensures some);
    }
