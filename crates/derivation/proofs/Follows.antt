-- The steps of a grant are a derivation of the goal with its settled weight.
use Rattle.std.proofs.Common.{◌≡◌, ℕ, zero, suc, ◌+◌, ◌<◌, ◌≤◌, true, eqb, List, [], ◌∷◌, ◌++◌, map, length, get_or, take, drop, Some, None, Option, sym, refl, ap, ◌∙◌, subst, ap₂, subst₂, add-one, arith}
use mathlib.Core.List.{Memᴰ}
use Rattle.std.specs.List.{slice_get}
use Rattle.std.proofs.lemmas.List.{map_more, take_all, take_at, length-map}
use Rattle.std.proofs.lemmas.Option.{slice_get-get_or, slice_get_within}
use Rattle.std.proofs.lemmas.Bool.{and_from, eq-eqb, cond-true}
use Rattle.credential.specs.declared.Record.{Record}
use Rattle.credential.specs.declared.Body.{Body}
use Rattle.credential.specs.declared.Body.TheVariants.{Member, Delegation, Link, Intersection}
use Rattle.credential.specs.Same.{Credential}
use Rattle.scale.specs.Scale.{Meaning, combined}
use Rattle.scale.specs.Order.{some_is, combine_full_right}
use Rattle.rules.specs.declared.memberships.Membership.{Membership}
use Rattle.rules.specs.declared.memberships.Reason.{Reason}
use Rattle.rules.specs.declared.memberships.Step.{Step}
use Rattle.rules.specs.System.{product}
use Rattle.rules.specs.Ways.{belongs, role_of}
use Rattle.rules.specs.Tables.{weight_by, table, Settled}
use Rattle.rules.specs.Derivation.{same_membership, Concluded, concluded, exactly, cited, by_rule, weighed, by_credential, follow, Stands, no_step, one_more, Derivation}
use Rattle.rules.specs.Grants.{place_in, cite, rests_on, Reached, here, onward, Listing, step_in, Granted}
use Rattle.rules.proofs.Listed.{Named}
use Rattle.rules.proofs.Earning.{reasons_weigh}
use Rattle.rules.proofs.Steps.{membership_self}
use Rattle.derivation.proofs.Places.{nth_taken, place_there}
use Rattle.derivation.proofs.Rests.{Resting, resting, rests_settled}
use Rattle.derivation.proofs.Trails.{Grounded}

module _ {S : Type 0} {M : Meaning S} {E : ℕ} {cs : List Credential} {reasons : List Reason} {goal : Membership} {n : ℕ} (g : Grounded M E cs reasons goal n) where
  abbrev final : Membership → Option S
  final = table M E cs n

  reached_settled : (q : Membership) → Reached M E cs n goal q → Settled M E cs n q
  reached_settled q here = g.reasoned.settled
  reached_settled q (onward {q = b} r m) = rests_settled M g.laws g.chooses E cs n b q (reached_settled b r) m

  abbrev weight_or : Option S → S
  weight_or None = M.full
  weight_or (Some w) = w

  weight_is : (o : Option S) → (o ≡ None → ⊥) → o ≡ Some (weight_or o)
  weight_is None h = absurd (h refl)
  weight_is (Some w) h = refl

  abbrev conclusion : Membership → Concluded S
  conclusion q = concluded q (weight_or (final q))

  module _ (order : List Membership) (listing : Listing M E cs n goal order) where
    abbrev step : Membership → Step
    step = step_in M E cs n order

    module _ (k : ℕ) (q : Membership) (at : slice_get order k ≡ Some q) where
      abbrev before : List (Concluded S)
      before = map conclusion (take k order)

      here_settled : Settled M E cs n q
      here_settled = reached_settled q (listing.reached k q at)

      -- a premise is cited for what it is settled at
      cites : (p : Membership) → Memᴰ p (rests_on M E cs n q) → cited (map conclusion (take k order)) (place_in order p) p ≡ final p
      cites p m =
          let j = listing.premises k q p at m in
          let e : place_in order p ≡ j.0 = listing.once (place_in order p) j.0 p (place_there order p j.0 j.2) j.2 in
          ap (λ i. exactly p (slice_get before i)) e
          ∙ ap (exactly p) (nth_taken conclusion order k j.0 p j.1 j.2)
          ∙ cond-true (same_membership p p) (Some (weight_or (final p))) None (membership_self p)
          ∙ sym (weight_is (final p) (rests_settled M g.laws g.chooses E cs n q p here_settled m))

      module _ (r : Resting M g.laws g.chooses E cs n q) where
        middle_is : (step q).middle.0 ≡ r.way.middle
        middle_is = ap (λ y. y.middle.0) r.because_of

        weighs_it : weight_by M (table M E cs n) r.way ≡ final q
        weighs_it = reasons_weigh M g.laws E cs n g.reasoned.still q r.way r.earned

        -- with no premise, one or two
        module _ (is : rests_on M E cs n q ≡ []) where
          pub none_first : eqb (step q).first 0 ≡ true
          none_first = eq-eqb _ 0 (ap (λ ps. cite order (slice_get ps 0)) is)

          pub none_second : eqb (step q).second 0 ≡ true
          none_second = eq-eqb _ 0 (ap (λ ps. cite order (slice_get ps 1)) is)

        module _ (p : Membership) (ps : List Membership) (is : rests_on M E cs n q ≡ p ∷ ps) where
          pub cites_first : cited (map conclusion (take k order)) (step q).first p ≡ final p
          cites_first = ap (λ l. cited before (cite order (slice_get l 0)) p) is ∙ cites p (subst (Memᴰ p) (sym is) (Memᴰ.head refl))

        module _ (p o : Membership) (is : rests_on M E cs n q ≡ p ∷ o ∷ []) where
          pub cites_second : cited (map conclusion (take k order)) (step q).second o ≡ final o
          cites_second = ap (λ l. cited before (cite order (slice_get l 1)) o) is ∙ cites o (subst (Memᴰ o) (sym is) (Memᴰ.tail (Memᴰ.head refl)))

        gives : (b : Body Record) → Named M E b q.member.0 r.way → by_rule M (map conclusion (take k order)) b (step q) ≡ final q
        gives (Member x w) named =
            let is = r.rests ∙ named.3 in
            cond-true _ (M.credential w) None (and_from _ _ (eq-eqb _ _ named.0) (and_from _ _ (eq-eqb _ 0 (middle_is ∙ named.1)) (and_from _ _ (none_first is) (none_second is))))
            ∙ sym named.2
            ∙ sym (ap (λ ps. product M r.way.weight (map final ps)) named.3)
            ∙ weighs_it
        gives (Delegation b) named =
            let p = belongs b q.member.0 in
            let is = r.rests ∙ named.2 in
            cond-true _ (cited before (step q).first p) None (and_from _ _ (eq-eqb _ 0 (middle_is ∙ named.0)) (eq-eqb _ 0 (ap (λ ps. cite order (slice_get ps 1)) is)))
            ∙ cites_first p [] is
            ∙ sym (combine_full_right M g.laws (final p))
            ∙ sym (ap₂ (λ v ps. product M v (map final ps)) named.1 named.2)
            ∙ weighs_it
        gives (Link b t) named =
            let p = belongs b r.way.middle in
            let o = belongs (role_of r.way.middle t) q.member.0 in
            let is = r.rests ∙ named.1 in
            ap (λ i. combined M (cited before (step q).first (belongs b i)) (cited before (step q).second (belongs (role_of i t) q.member.0))) middle_is
            ∙ ap₂ (combined M) (cites_first p (o ∷ []) is) (cites_second p o is)
            ∙ ap (combined M (final p)) (sym (combine_full_right M g.laws (final o)))
            ∙ sym (ap₂ (λ v ps. product M v (map final ps)) named.0 named.1)
            ∙ weighs_it
        gives (Intersection b c) named =
            let p = belongs b q.member.0 in
            let o = belongs c q.member.0 in
            let is = r.rests ∙ named.2 in
            cond-true _ (combined M (cited before (step q).first p) (cited before (step q).second o)) None (eq-eqb _ 0 (middle_is ∙ named.0))
            ∙ ap₂ (combined M) (cites_first p (o ∷ []) is) (cites_second p o is)
            ∙ ap (combined M (final p)) (sym (combine_full_right M g.laws (final o)))
            ∙ sym (ap₂ (λ v ps. product M v (map final ps)) named.1 named.2)
            ∙ weighs_it

      follows : follow M cs (map conclusion (take k order)) (step_in M E cs n order q) ≡ Some (conclusion q)
      follows =
          let r = resting M g.laws g.chooses E cs n q here_settled in
          ap (λ y. by_credential M before (step q) (slice_get cs y.place)) r.because_of
          ∙ ap (by_credential M before (step q)) r.at
          ∙ ap (weighed M (belongs r.credential.head q.member.0)) (gives r r.credential.body r.named ∙ weight_is (final q) here_settled)
          ∙ ap (λ h. Some (concluded (belongs h q.member.0) (weight_or (final q)))) r.heads

    stands : (k : ℕ) → k ≤ length order → Stands M cs (map (step_in M E cs n order) (take k order)) (map conclusion (take k order))
    stands zero l = no_step
    stands (suc k) l =
        let q = get_or order k goal in
        let h : k < length order = omega arith in
        let more = one_more (step q) (conclusion q) (stands k (omega arith)) (follows k q (slice_get-get_or order k goal h)) in
        subst (λ i. Stands M cs (map step (take i order)) (map conclusion (take i order))) (add-one k)
        (subst₂ (Stands M cs) (sym (map_more step order k goal h)) (sym (map_more conclusion order k goal h)) more)

    derives : (w : S) → final goal ≡ Some w → Derivation M cs goal w (map (step_in M E cs n order) order)
    derives w is =
        let k = listing.last.0 in
        let at = listing.last.2 in
        let h : k < length order = slice_get_within order k goal at in
        let goal_is : get_or order k goal ≡ goal = some_is (sym (slice_get-get_or order k goal h) ∙ at) in
        record {
          before = map step (take k order);
          told = map conclusion (take k order);
          last = step goal;
          are = ap (map step) (sym (take_all (k + 1) order (omega (arith, listing.last.1)))) ∙ map_more step order k goal h ∙ ap (λ q. map step (take k order) ++ step q ∷ []) goal_is;
          stands = stands k (omega arith);
          concludes = follows k goal at ∙ ap (λ o. Some (concluded goal (weight_or o))) is;
        }

  -- the steps that a grant wrote
  pub grant_derives : (old new : List Step) (count : ℕ) → Granted M E cs n goal old new count → (w : S) → final goal ≡ Some w → Derivation M cs goal w (take count new)
  grant_derives old new count grant w is =
      let made = map (step_in M E cs n grant.order) grant.order in
      let front : take count new ≡ made = ap (take count) grant.written ∙ take_at made (drop (length grant.order) old) count (length-map grant.order (step_in M E cs n grant.order) ∙ sym grant.many) in
      subst (Derivation M cs goal w) (sym front) (derives grant.order grant.listing w is)
