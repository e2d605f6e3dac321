-- The order of a scale's weights. Only `le_total` takes that better-of chooses.
use Rattle.std.specs.Prelude.{◌≡◌, ℕ, Bool, true, false, cond, ◌⊎◌, Some, None, Option, ◌≢◌, refl}
use Rattle.std.proofs.Common.{sym, ap, ap₂, ◌∙◌, inl, inr, arith}
use Rattle.scale.specs.Scale.{Meaning, Laws, Chooses, better_of, combined, full_weight, AtLeast}

pub none_some : {S : Type 0} {a : S} → None ≢ Some a
none_some e = let z : ◌≡◌ {A = ℕ} 0 1 = cc in omega arith

pub some_is : {S : Type 0} {a b : S} → Some a ≡ Some b → a ≡ b
some_is e = cc

-- whether two weights are the same
pub weight_same : {S : Type 0} (m : Meaning S) (x y : Option S) → Dec (x ≡ y)
weight_same m None None = yes refl
weight_same m None (Some b) = no none_some
weight_same m (Some a) None = no (λ e. none_some (sym e))
weight_same m (Some a) (Some b) = by (m.same a b)
  where
    by : Dec (a ≡ b) → Dec (Some a ≡ Some b)
    by (yes e) = yes (ap Some e)
    by (no n) = no (λ e. n (some_is e))

-- of two weights, the one that a test picks
pub cond_chooses : {S : Type 0} (t : Bool) (a b : S) → (Some (cond t a b) ≡ Some a) ⊎ (Some (cond t a b) ≡ Some b)
cond_chooses true a b = inl refl
cond_chooses false a b = inr refl

-- x is no better than y
abbrev pub Le : {S : Type 0} → Meaning S → Option S → Option S → Type 0
Le m x y = AtLeast m y x

module _ {S : Type 0} (m : Meaning S) (laws : Laws m) where
  pub better_none_right : (x : Option S) → better_of m x None ≡ x
  better_none_right x = laws.better_comm x None ∙ laws.better_none x

  pub combine_none_right : (x : Option S) → combined m x None ≡ None
  combine_none_right x = laws.combine_comm x None ∙ laws.combine_none x

  pub combine_full_right : (x : Option S) → combined m x (full_weight m) ≡ x
  combine_full_right x = laws.combine_comm x (full_weight m) ∙ laws.combine_full x

  -- full is no better than itself, and so, combined with x, is x
  pub le_refl : (x : Option S) → Le m x x
  le_refl x =
      let one = combine_full_right x in
      ap₂ (better_of m) (sym one) (sym one)
      ∙ sym (laws.distributes x (full_weight m) (full_weight m))
      ∙ ap (combined m x) (laws.better_full (full_weight m))
      ∙ one

  pub le_trans : (x y z : Option S) → Le m x y → Le m y z → Le m x z
  le_trans x y z h k = ap (λ w. better_of m w x) (sym k) ∙ laws.better_assoc z y x ∙ ap (better_of m z) h ∙ k

  pub le_antisym : (x y : Option S) → Le m x y → Le m y x → x ≡ y
  le_antisym x y h k = sym k ∙ laws.better_comm x y ∙ h

  pub le_none : (x : Option S) → Le m None x
  le_none = better_none_right

  pub le_full : (x : Option S) → Le m x (full_weight m)
  le_full = laws.better_full

  pub le_total : Chooses m → (x y : Option S) → Le m x y ⊎ Le m y x
  le_total chooses x y = by (chooses x y)
    where
      by : (better_of m x y ≡ x) ⊎ (better_of m x y ≡ y) → Le m x y ⊎ Le m y x
      by (inl e) = inr e
      by (inr e) = inl (laws.better_comm y x ∙ e)

  -- the better of two is the least weight that is at least both
  pub le_better : (x y : Option S) → Le m x (better_of m x y)
  le_better x y = laws.better_comm (better_of m x y) x ∙ sym (laws.better_assoc x x y) ∙ ap (λ w. better_of m w y) (le_refl x)

  pub le_better_right : (x y : Option S) → Le m y (better_of m x y)
  le_better_right x y = laws.better_assoc x y y ∙ ap (better_of m x) (le_refl y)

  pub better_le : (x y z : Option S) → Le m x z → Le m y z → Le m (better_of m x y) z
  better_le x y z h k = sym (laws.better_assoc z x y) ∙ ap (λ w. better_of m w y) h ∙ k

  -- combining keeps the order
  pub le_combined : (z x y : Option S) → Le m x y → Le m (combined m z x) (combined m z y)
  le_combined z x y h = sym (laws.distributes z y x) ∙ ap (combined m z) h

  pub le_combined_both : (w x y z : Option S) → Le m w x → Le m y z → Le m (combined m w y) (combined m x z)
  le_combined_both w x y z h k =
      le_trans (combined m w y) (combined m w z) (combined m x z) (le_combined w y z k)
      (rw (laws.combine_comm w z, laws.combine_comm x z) (le_combined z w x h))

  -- combining never gains
  pub combined_le : (x y : Option S) → Le m (combined m x y) x
  combined_le x y =
      let h : Le m (combined m x y) (combined m x (full_weight m)) = le_combined x y (full_weight m) (le_full y) in
      rw (combine_full_right x) at h

  pub combined_le_right : (x y : Option S) → Le m (combined m x y) y
  combined_le_right x y = rw (laws.combine_comm x y) (combined_le y x)
