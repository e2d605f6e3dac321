-- Places in lists, and the place of a membership in one.
use Rattle.std.proofs.Common.{◌≡◌, ℕ, zero, suc, ◌<◌, Bool, true, false, cond, List, [], ◌∷◌, map, length, get_or, take, Some, sym, refl, ap, ◌∙◌, subst, arith}
use mathlib.Core.List.{Memᴰ}
use Rattle.std.specs.List.{slice_get}
use Rattle.std.specs.Option.{option_map}
use Rattle.std.proofs.lemmas.List.{get_or-take, length-map, length-take}
use Rattle.std.proofs.lemmas.Option.{get_or_from_slice_get, slice_get-get_or, slice_get-map, slice_get_within}
use Rattle.std.proofs.lemmas.Bool.{cond-true}
use Rattle.scale.specs.Order.{none_some, some_is}
use Rattle.rules.specs.declared.memberships.Membership.{Membership}
use Rattle.rules.specs.Derivation.{same_membership}
use Rattle.rules.specs.Grants.{place_in}
use Rattle.rules.proofs.Steps.{membership_is, membership_self}

module _ {X : Type 0} where
  pub nth_mem : (xs : List X) (i : ℕ) (x : X) → slice_get xs i ≡ Some x → Memᴰ x xs
  nth_mem [] i x e = absurd (none_some e)
  nth_mem (y ∷ xs) zero x e = Memᴰ.head (sym (some_is e))
  nth_mem (y ∷ xs) (suc i) x e = Memᴰ.tail (nth_mem xs i x e)

module _ {X Y : Type 0} (f : X → Y) where
  pub nth_made : (xs : List X) (d : X) (k : ℕ) → k < length xs → slice_get (map f xs) k ≡ Some (f (get_or xs k d))
  nth_made xs d k h = slice_get-map f xs k ∙ ap (option_map f) (slice_get-get_or xs k d h)

  pub nth_mapped : (xs : List X) (d : X) (k : ℕ) (y : Y) → slice_get (map f xs) k ≡ Some y → (k < length xs) × (f (get_or xs k d) ≡ y)
  nth_mapped xs d k y e =
      let h : k < length xs = omega (arith, slice_get_within (map f xs) k y e, length-map xs f) in
      (h, some_is (sym (nth_made xs d k h) ∙ e))

  pub nth_taken : (xs : List X) (k j : ℕ) (x : X) → j < k → slice_get xs j ≡ Some x → slice_get (map f (take k xs)) j ≡ Some (f x)
  nth_taken xs k j x h e =
      let here : j < length (take k xs) = omega (arith, slice_get_within xs j x e, length-take k xs) in
      nth_made (take k xs) x j here ∙ ap (λ z. Some (f z)) (get_or-take k xs j x h ∙ get_or_from_slice_get xs j x x e)

-- the place of a membership that is there has it
pub place_there : (order : List Membership) (q : Membership) (j : ℕ) → slice_get order j ≡ Some q → slice_get order (place_in order q) ≡ Some q
place_there [] q j e = absurd (none_some e)
place_there (p ∷ ps) q zero e =
    let same : same_membership p q ≡ true = subst (λ z. same_membership p z ≡ true) (some_is e) (membership_self p) in
    ap (slice_get (p ∷ ps)) (cond-true (same_membership p q) 0 (suc (place_in ps q)) same) ∙ e
place_there (p ∷ ps) q (suc j) e = by (same_membership p q) refl (place_there ps q j e)
  where
    by : (v : Bool) → same_membership p q ≡ v → slice_get ps (place_in ps q) ≡ Some q → slice_get (p ∷ ps) (cond v 0 (suc (place_in ps q))) ≡ Some q
    by true s h = ap Some (membership_is p q s)
    by false s h = h
