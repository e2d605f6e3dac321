-- The ways offered in turn leave the best of them, and the first with that weight.
use Rattle.std.proofs.Common.{◌≡◌, ℕ, suc, Bool, true, false, cond, ◌⊎◌, List, [], ◌∷◌, ◌++◌, map, filter, Option, sym, refl, ap, ◌∙◌, subst, ap₂, inl, inr}
use mathlib.Core.Logic.{ite, if_pos, if_neg}
use mathlib.Core.List.{Memᴰ}
use Rattle.std.proofs.lemmas.List.{map-append}
use Rattle.std.proofs.lemmas.List.Elements.{filter-append}
use Rattle.scale.specs.Scale.{Meaning, Laws, Chooses, better_of, AtLeast}
use Rattle.rules.specs.System.{Table, weighs}
use Rattle.scale.specs.Best.{best_of}
use Rattle.rules.specs.declared.memberships.Reason.{Reason}
use Rattle.rules.specs.declared.memberships.Membership.{Membership}
use Rattle.rules.specs.Ways.{Way, ways, below}
use Rattle.scale.specs.Order.{weight_same, le_better}
use Rattle.rules.specs.Tables.{because, candidate, weight_by, first_with, system, table, reason}
use Rattle.settle.specs.Entries.{Entry, entry, taken, offered}
use Rattle.rules.proofs.Order.{at_least_none, at_least_trans, at_least_antisym}
use Rattle.rules.proofs.Rounds.{after_grows}
use Rattle.credential.specs.Same.{Credential}

-- one offer, w, before those whose best is b: u is the weight that stood there, r its reason
module _ {S : Type 0} (m : Meaning S) (laws : Laws m) (chooses : Chooses m) (u w b : Option S) (r y z : Reason) where
  abbrev once : Option S
  once = better_of m u w

  abbrev all : Option S
  all = better_of m u (better_of m w b)

  all_above : better_of m all once ≡ all
  all_above = ap (λ x. better_of m x once) (sym (laws.better_assoc u w b)) ∙ le_better m laws once b ∙ laws.better_assoc u w b

  picked : (once ≡ u → ⊥) → (once ≡ u) ⊎ (once ≡ w) → once ≡ w
  picked o (inl e) = absurd (o e)
  picked o (inr e) = e

  reason_step : ite (weight_same m all once) (ite (weight_same m once u) r y) z ≡ ite (weight_same m all u) r (ite (weight_same m w all) y z)
  reason_step = by (weight_same m all u) (weight_same m all once)
    where
      by : Dec (all ≡ u) → Dec (all ≡ once) → ite (weight_same m all once) (ite (weight_same m once u) r y) z ≡ ite (weight_same m all u) r (ite (weight_same m w all) y z)
      by (yes a) c =
          let low : better_of m u once ≡ u = subst (λ (x : Option S). better_of m x once ≡ x) a all_above in
          let same : once ≡ u = at_least_antisym m laws once u (le_better m laws u w) low in
          if_pos (weight_same m all once) (a ∙ sym same) _ _ ∙ if_pos (weight_same m once u) same _ _ ∙ sym (if_pos (weight_same m all u) a _ _)
      by (no n) (yes c) =
          let other : once ≡ u → ⊥ = λ e. n (c ∙ e) in
          let mine : once ≡ w = picked other (chooses u w) in
          if_pos (weight_same m all once) c _ _ ∙ if_neg (weight_same m once u) other _ _ ∙ sym (if_pos (weight_same m w all) (sym mine ∙ sym c) _ _) ∙ sym (if_neg (weight_same m all u) n _ _)
      by (no n) (no k) =
          let above : better_of m all u ≡ all = le_better m laws u (better_of m w b) in
          let never : w ≡ all → ⊥ = λ e. k (sym (ap (better_of m u) e ∙ laws.better_comm u all ∙ above)) in
          if_neg (weight_same m all once) k _ _ ∙ sym (if_neg (weight_same m w all) never _ _) ∙ sym (if_neg (weight_same m all u) n _ _)

-- an offer that is left out where a test fails
abbrev pub taken_if : {S : Type 0} → Meaning S → Bool → Option S → Reason → Entry S → Entry S
taken_if m true w r e = taken m w r e
taken_if m false w r e = e

module _ {S : Type 0} (m : Meaning S) (laws : Laws m) (t : Table Membership S) where
  abbrev top : List (Way S) → Option S
  top ys = best_of m (map (weight_by m t) ys)

  pub offered_append : (xs ys : List (Way S)) (e : Entry S) → offered m t (xs ++ ys) e ≡ offered m t ys (offered m t xs e)
  offered_append [] ys e = refl
  offered_append (x ∷ xs) ys e = offered_append xs ys (taken m (weight_by m t x) (because x.place x.middle) e)

  -- what is no better than the entry leaves it
  pub taken_below : (w : Option S) (r : Reason) (e : Entry S) → AtLeast m e.weight w → taken m w r e ≡ e
  taken_below w r e h = ap₂ (λ (v : Option S) (z : Reason). entry v z) h (if_pos (weight_same m (better_of m e.weight w) e.weight) h e.reason r)

  -- the ways that pass a test
  module _ (p : Way S → Bool) where
    pub kept_append : (xs ys : List (Way S)) (e : Entry S) → offered m t (filter p (xs ++ ys)) e ≡ offered m t (filter p ys) (offered m t (filter p xs) e)
    kept_append xs ys e = ap (λ zs. offered m t zs e) (filter-append p xs ys) ∙ offered_append (filter p xs) (filter p ys) e

    -- one more of a list of ways in order
    pub offered_more : (f : ℕ → Way S) (n : ℕ) (e : Entry S) → offered m t (filter p (map f (below (suc n)))) e ≡ taken_if m (p (f n)) (weight_by m t (f n)) (because (f n).place (f n).middle) (offered m t (filter p (map f (below n))) e)
    offered_more f n e = ap (λ ys. offered m t (filter p ys) e) (map-append f (below n) (n ∷ [])) ∙ kept_append (map f (below n)) (f n ∷ []) e ∙ by (p (f n)) (offered m t (filter p (map f (below n))) e)
      where
        by : (v : Bool) (y : Entry S) → offered m t (cond v (f n ∷ []) []) y ≡ taken_if m v (weight_by m t (f n)) (because (f n).place (f n).middle) y
        by true y = refl
        by false y = refl

    -- ways that are no better than the entry may be left out
    pub kept_offered : (ys : List (Way S)) (e : Entry S) → ((y : Way S) → Memᴰ y ys → p y ≡ false → AtLeast m e.weight (weight_by m t y)) → offered m t (filter p ys) e ≡ offered m t ys e
    kept_offered [] e h = refl
    kept_offered (y ∷ ys) e h = by (p y) refl (λ d. kept_offered ys d)
      where
        by : (v : Bool) → p y ≡ v → ((d : Entry S) → ((z : Way S) → Memᴰ z ys → p z ≡ false → AtLeast m d.weight (weight_by m t z)) → offered m t (filter p ys) d ≡ offered m t ys d) → offered m t (cond v (y ∷ filter p ys) (filter p ys)) e ≡ offered m t ys (taken m (weight_by m t y) (because y.place y.middle) e)
        by true k again = again (taken m (weight_by m t y) (because y.place y.middle) e) (λ z i l.
            at_least_trans m laws (better_of m e.weight (weight_by m t y)) e.weight (weight_by m t z) (le_better m laws e.weight (weight_by m t y)) (h z (Memᴰ.tail i) l))
        by false k again =
            again e (λ z i. h z (Memᴰ.tail i))
            ∙ ap (offered m t ys) (sym (taken_below (weight_by m t y) (because y.place y.middle) e (h y (Memᴰ.head refl) k)))

  pub offered_weight : (ys : List (Way S)) (e : Entry S) → (offered m t ys e).weight ≡ better_of m e.weight (top ys)
  offered_weight [] e = sym (at_least_none m laws e.weight)
  offered_weight (y ∷ ys) e = offered_weight ys (taken m (weight_by m t y) (because y.place y.middle) e) ∙ laws.better_assoc e.weight (weight_by m t y) (top ys)

  pub offered_reason : Chooses m → (ys : List (Way S)) (e : Entry S) → (offered m t ys e).reason ≡ ite (weight_same m (better_of m e.weight (top ys)) e.weight) e.reason (first_with m t (better_of m e.weight (top ys)) ys)
  offered_reason chooses [] e = sym (if_pos (weight_same m _ _) (at_least_none m laws e.weight) _ _)
  offered_reason chooses (y ∷ ys) e =
      offered_reason chooses ys (taken m (weight_by m t y) (because y.place y.middle) e)
      ∙ ap (λ z. ite (weight_same m z (better_of m e.weight (weight_by m t y))) (taken m (weight_by m t y) (because y.place y.middle) e).reason (first_with m t z ys)) (laws.better_assoc e.weight (weight_by m t y) (top ys))
      ∙ reason_step m laws chooses e.weight (weight_by m t y) (top ys) e.reason (because y.place y.middle) (first_with m t (better_of m e.weight (better_of m (weight_by m t y) (top ys))) ys)

-- a round made from the table after k rounds leaves the table and the reasons after one more
module _ {S : Type 0} (m : Meaning S) (laws : Laws m) (E : ℕ) (cs : List Credential) (k : ℕ) (q : Membership) where
  map_plain : (t : Table Membership S) (ys : List (Way S)) → map (weight_by m t) ys ≡ map (weighs m t) (map (candidate m) ys)
  map_plain t [] = refl
  map_plain t (y ∷ ys) = ap (λ xs. weight_by m t y ∷ xs) (map_plain t ys)

  pub better_next : better_of m (table m E cs k q) (best_of m (map (weight_by m (table m E cs k)) (ways m E cs q))) ≡ table m E cs (suc k) q
  better_next =
      ap (λ xs. better_of m (table m E cs k q) (best_of m xs)) (map_plain (table m E cs k) (ways m E cs q))
      ∙ laws.better_comm (table m E cs k q) (table m E cs (suc k) q)
      ∙ after_grows m laws (system m E cs) k q

  abbrev pub entry_after : ℕ → Entry S
  entry_after n = record { weight = table m E cs n q; reason = reason m E cs n q }

  pub round_entry : Chooses m → offered m (table m E cs k) (ways m E cs q) (entry_after k) ≡ entry_after (suc k)
  round_entry chooses =
      let e = entry_after k in
      let ws = offered_weight m laws (table m E cs k) (ways m E cs q) e ∙ better_next in
      let rs = offered_reason m laws (table m E cs k) chooses (ways m E cs q) e ∙ ap (λ z. ite (weight_same m z (table m E cs k q)) (reason m E cs k q) (first_with m (table m E cs k) z (ways m E cs q))) better_next in
      ap₂ (λ (w : Option S) (r : Reason). entry w r) ws rs
