use Rattle.std.proofs.Common.{length, ◌++◌, sym, ap, ◌∙◌, subst, arith, length-append, append_assoc, append-nil}
use lib.ListN.{length-map}
use Rattle.std.proofs.lemmas.Grind.{common_steps}
use Rattle.book.specs.Kept.{entities, role_names}
use Rattle.book.proofs.Counts.{few_role_names}
use Rattle.source.specs.Shows.{stated}
use Rattle.rules.specs.Cells.{heads}
use Rattle.heads.specs.Enrolled.{AllIn}
use Rattle.heads.specs.Index.{Indexed}
use Rattle.heads.proofs.Admitting.{all_in}
use Rattle.heads.proofs.Fewer.{heads_fewer}
use Rattle.heads.proofs.Numbering.{heads_end}
use Rattle.heads.proofs.admission.admit.Goals as goal

pub note-requires-clause-room : goal.note-requires-clause-room
note-requires-clause-room g c =
    let all = ap length c.loop-place.invariant.all in
    omega (arith, c.loop-place.invariant.numbered.count, heads_fewer c.loop-place.yielded, length-append c.loop-place.yielded c.loop-place.c-iterator, length-map (g.R.Source.shows c.args.source.now) (λ s. s.credential), c.requires.few)

pub loop-place-preserved : goal.loop-place-preserved
loop-place-preserved g c =
    let i = c.loop-place.invariant in record {
      all = i.all ∙ ap (λ cs. c.loop-place.yielded ++ cs) c.in-Some.ensures.steps ∙ sym (append_assoc c.loop-place.yielded _ _);
      place = simp length-append (omega arith);
      numbered = rw heads_end (c.note.ensures (heads c.loop-place.yielded) i.numbered);
      good = grind (arith, common_steps);
    }

pub invariant_of-result-clause-known : goal.invariant_of-result-clause-known
invariant_of-result-clause-known g c =
    subst (λ n. AllIn n (stated (g.R.Source.shows c.args.source.now))) (sym c.entity_count.ensures.value) (all_in g.S.Scale.meaning (length (entities c.args.register.now)) (length (role_names c.args.register.now)) (few_role_names c.args.register.now) (stated (g.R.Source.shows c.args.source.now)) (grind (arith, common_steps)))

pub invariant_of-result-clause-indexed : goal.invariant_of-result-clause-indexed
invariant_of-result-clause-indexed g c =
    let i = c.loop-place.invariant in
    subst (λ cs. Indexed c.loop-place.index (heads cs)) (sym (i.all ∙ ap (λ cs. c.loop-place.yielded ++ cs) c.in-None.ensures.steps.0 ∙ append-nil c.loop-place.yielded)) i.numbered
