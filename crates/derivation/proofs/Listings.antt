-- From cells to memberships: what a walk over the cells of a settled table writes is a grant.
use Rattle.std.proofs.Common.{◌≡◌, ℕ, ◌-◌, ◌<◌, ◌⊎◌, List, ◌++◌, map, length, get_or, drop, Some, None, Option, sym, refl, ap, ◌∙◌, subst, ap₂, inl, inr, arith}
use mathlib.Core.List.{map-map, Memᴰ}
use Rattle.std.specs.List.{slice_get}
use Rattle.std.proofs.lemmas.List.{length-map}
use Rattle.std.proofs.lemmas.Bool.{cases_order}
use Rattle.credential.specs.Same.{Credential}
use Rattle.scale.specs.Scale.{Meaning}
use Rattle.scale.specs.Order.{some_is}
use Rattle.rules.specs.declared.memberships.Membership.{Membership}
use Rattle.rules.specs.declared.memberships.Reason.{Reason}
use Rattle.rules.specs.declared.memberships.Step.{Step}
use Rattle.rules.specs.Tables.{reason}
use Rattle.rules.specs.Grants.{place_in, cite, rests_on, Reached, here, onward, Listing, step_in, Granted}
use Rattle.walk.specs.declared.reasons.CellStep.{CellStep}
use Rattle.walk.specs.Walk.{Reached as CellReached, here as cell_here, onward as cell_onward}
use Rattle.walk.specs.Grant.{place_of, step_in as cell_step_in, CellListing, CellGrant}
use Rattle.walk.proofs.Grants.{place_is, map_same}
use Rattle.derivation.specs.Trail.{cell_count, cell_of, cell_if, step_at}
use Rattle.derivation.proofs.Places.{nth_mem, nth_mapped, nth_made, place_there}
use Rattle.derivation.proofs.Located.{at, cell_back}
use Rattle.derivation.proofs.Trails.{Grounded, leads_is, goal_at, premise_rests, rests_premise}

module _ {S : Type 0} {M : Meaning S} {E : ℕ} {cs : List Credential} {reasons : List Reason} {goal : Membership} {n : ℕ} (g : Grounded M E cs reasons goal n) (cell : ℕ) (found : cell_of cs E goal ≡ Some cell) where
  abbrev leads : ℕ → CellStep
  leads = step_at cs E reasons

  abbrev member : ℕ → Membership
  member = at E cs

  goal_is : (at E cs cell ≡ goal) × (cell < cell_count cs E)
  goal_is = goal_at g cell found

  back : (c : ℕ) → c < cell_count cs E → cell_of cs E (at E cs c) ≡ Some c
  back c l = cell_back E cs c l

  -- what is reached, by cell and by membership
  reached_in : (c : ℕ) → CellReached (step_at cs E reasons) cell c → (c < cell_count cs E) × Reached M E cs n goal (at E cs c)
  reached_in c cell_here = (goal_is.1, subst (Reached M E cs n goal) (sym goal_is.0) here)
  reached_in c (cell_onward {c = b} r is) =
      let p = reached_in b r in
      let q = premise_rests g b c p.0 is in
      (q.1, onward p.1 q.0)

  reached_cell : (q : Membership) → Reached M E cs n goal q → (c : ℕ) × CellReached (step_at cs E reasons) cell c × (at E cs c ≡ q)
  reached_cell q here = (cell, cell_here, goal_is.0)
  reached_cell q (onward {q = b} r m) =
      let k = reached_cell b r in
      let p = rests_premise g k.0 q (reached_in k.0 k.1).0 (subst (λ z. Memᴰ q (rests_on M E cs n z)) (sym k.2) m) in
      (p.0, cell_onward k.1 p.1, p.2)

  module _ (order : List ℕ) (listing : CellListing (step_at cs E reasons) cell order) where
    abbrev members : List Membership
    members = map (at E cs) order

    in_cells : (k : ℕ) → k < length order → get_or order k 0 < cell_count cs E
    in_cells k h = (reached_in (get_or order k 0) (listing.reached k h)).0

    once : (j k : ℕ) (q : Membership) → slice_get (map (at E cs) order) j ≡ Some q → slice_get (map (at E cs) order) k ≡ Some q → j ≡ k
    once j k q e f = by (cases_order j k)
      where
        a : (j < length order) × (at E cs (get_or order j 0) ≡ q)
        a = nth_mapped member order 0 j q e

        b : (k < length order) × (at E cs (get_or order k 0) ≡ q)
        b = nth_mapped member order 0 k q f

        same : get_or order j 0 ≡ get_or order k 0
        same = some_is (sym (back (get_or order j 0) (in_cells j a.0)) ∙ ap (cell_of cs E) (a.1 ∙ sym b.1) ∙ back (get_or order k 0) (in_cells k b.0))

        by : (j ≡ k) ⊎ ((j < k) ⊎ (k < j)) → j ≡ k
        by (inl i) = i
        by (inr (inl l)) = absurd (listing.once j k l b.0 same)
        by (inr (inr l)) = absurd (listing.once k j l a.0 (sym same))

    -- a premise's place, by cell and by membership
    placed : (k : ℕ) → k < length order → (p : Membership) → Memᴰ p (rests_on M E cs n (at E cs (get_or order k 0))) → (j : ℕ) × (j < k) × (slice_get (map (at E cs) order) j ≡ Some p) × (place_of order (cell_of cs E p) ≡ j)
    placed k h p m =
        let r = rests_premise g (get_or order k 0) p (in_cells k h) m in
        let j = listing.premises k r.0 h r.1 in
        let low : j.0 < length order = omega (arith, j.1) in
        (j.0, j.1, nth_made member order 0 j.0 low ∙ ap (λ c. Some (member c)) j.2 ∙ ap Some r.2, ap (place_of order) r.3 ∙ place_is order j.0 r.0 low j.2 (λ i l q. listing.once i j.0 l low (q ∙ sym j.2)))

    memberships : Listing M E cs n goal (map (at E cs) order)
    memberships = record {
      once = once;
      premises = λ k q p e m.
          let a = nth_mapped member order 0 k q e in
          let r = placed k a.0 p (subst (λ z. Memᴰ p (rests_on M E cs n z)) (sym a.1) m) in
          (r.0, r.1, r.2);
      reached = λ k q e.
          let a = nth_mapped member order 0 k q e in
          subst (Reached M E cs n goal) a.1 (reached_in (get_or order k 0) (listing.reached k a.0)).1;
      complete = λ q r.
          let c = reached_cell q r in
          let k = listing.complete c.0 c.1 in
          (k.0, nth_made member order 0 k.0 k.1 ∙ ap (λ z. Some (member z)) k.2 ∙ ap Some c.2);
      last =
          let k = length order - 1 in
          (k, length-map order member ∙ omega (arith, listing.some), nth_made member order 0 k (omega (arith, listing.some)) ∙ ap (λ z. Some (member z)) listing.last ∙ ap Some goal_is.0);
    }

    cites : (k : ℕ) → k < length order → (o : Option Membership) → ((p : Membership) → o ≡ Some p → Memᴰ p (rests_on M E cs n (at E cs (get_or order k 0)))) → place_of order (cell_if cs E o) ≡ cite (map (at E cs) order) o
    cites k h None m = refl
    cites k h (Some p) m =
        let r = placed k h p (m p refl) in
        r.3 ∙ sym (once (place_in members p) r.0 p (place_there members p r.0 r.2) r.2)

    same_step : (k : ℕ) → k < length order → cell_step_in order (step_at cs E reasons (get_or order k 0)) ≡ step_in M E cs n (map (at E cs) order) (at E cs (get_or order k 0))
    same_step k h =
        let q = member (get_or order k 0) in
        let why = reason M E cs n q in
        let ps = rests_on M E cs n q in
        let make : ℕ → ℕ → Step = λ a b. record { place = why.place; member = q.member; middle = why.middle; first = a; second = b } in
        ap (cell_step_in order) (leads_is g (get_or order k 0) (in_cells k h))
        ∙ ap₂ make (cites k h (slice_get ps 0) (λ p e. nth_mem ps 0 p e)) (cites k h (slice_get ps 1) (λ p e. nth_mem ps 1 p e))

  pub granted : (old new : List Step) (count : ℕ) → CellGrant (step_at cs E reasons) cell old new count → Granted M E cs n goal old new count
  granted old new count w =
      let order = w.order in
      let members : List Membership = map member order in
      record {
        order = members;
        listing = memberships order w.listing;
        many = w.many ∙ sym (length-map order member);
        written = w.written ∙ ap₂ (λ a i. a ++ drop i old) (map_same (λ c. cell_step_in order (leads c)) (λ c. step_in M E cs n members (member c)) order (same_step order w.listing) ∙ sym (map-map (step_in M E cs n members) member order)) (sym (length-map order member));
      }
