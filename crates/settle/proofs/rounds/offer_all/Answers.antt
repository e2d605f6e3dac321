use Rattle.std.proofs.Common.{◌≡◌, ◌++◌, [], ◌∷◌, sym, ap, ◌∙◌, subst, append_assoc, length-append, arith}
use Rattle.rules.specs.Cells.{heads}
use Rattle.source.specs.Shows.{stated}
use Rattle.heads.specs.Enrolled.{AllIn}
use Rattle.settle.specs.Entries.{entry_at, shown}
use Rattle.settle.specs.Moves.{flags, worth}
use Rattle.settle.proofs.Spreads.{known_between, spread_more}
use Rattle.settle.proofs.rounds.offer_all.Given as given
use Rattle.settle.proofs.rounds.offer_all.Goals as goal
use Rattle.settle.proofs.rounds.offer_all.Goals.{In-Some}

-- the credentials, with this one between those before and those after it
parted : (g : given.Over) (c : In-Some g) → stated (g.R.Source.shows c.args.round.now.admitted.now.source.now) ≡ c.loop-place.yielded ++ (c.in-Some.c ∷ c.next.new.self)
parted g c = c.loop-place.invariant.all ∙ ap (λ cs. c.loop-place.yielded ++ cs) c.in-Some.ensures.steps

pub offer_credential-requires-clause-known : goal.offer_credential-requires-clause-known
offer_credential-requires-clause-known g c =
    let admitted = c.args.round.now.admitted.now in
    known_between admitted.entities c.loop-place.yielded c.next.new.self c.in-Some.c (subst (AllIn admitted.entities) (parted g (goal.at.offer_credential-requires-clause-known g c).In-Some) admitted.known)

pub loop-place-preserved : goal.loop-place-preserved
loop-place-preserved g c =
    let round = c.args.round.now in
    let rs = heads (stated (g.R.Source.shows round.admitted.now.source.now)) in
    let i = c.loop-place.invariant in record {
      all = parted g (goal.at.loop-place-preserved g c).In-Some ∙ sym (append_assoc c.loop-place.yielded (c.in-Some.c ∷ []) c.next.new.self);
      place = simp length-append (omega arith);
      offered_so_far = spread_more g.S.Scale.meaning g.met.S.Scale.laws round.admitted.now.entities rs (shown rs round.admitted.now.entities round.former.now) (worth rs (flags round.changed)) c.loop-place.yielded c.in-Some.c (entry_at c.args.latest.now c.args.reasons.now) (entry_at c.loop-place.latest c.loop-place.reasons) (entry_at c.offer_credential.new.latest c.offer_credential.new.reasons) i.offered_so_far (rw i.place at c.offer_credential.ensures);
    }
