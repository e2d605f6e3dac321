-- What an operation that gives the higher of two, in some total order, keeps to.
use Rattle.std.specs.Prelude.{◌≡◌, ◌⊎◌}
use Rattle.std.proofs.Common.{sym, ap, ◌∙◌, inl, inr}

-- R x y: x is no higher than y
module _ {W : Type 0} (R : W → W → Type 0) (best : W → W → W)
    (total : (x y : W) → R x y ⊎ R y x)
    (trans : (x y z : W) → R x y → R y z → R x z)
    (up : (x y : W) → R x y → best x y ≡ y)
    (down : (x y : W) → R y x → best x y ≡ x) where
  pub best_comm : (x y : W) → best x y ≡ best y x
  best_comm x y = by (total x y)
    where
      by : R x y ⊎ R y x → best x y ≡ best y x
      by (inl h) = up x y h ∙ sym (down y x h)
      by (inr h) = down x y h ∙ sym (up y x h)

  pub best_chooses : (x y : W) → (best x y ≡ x) ⊎ (best x y ≡ y)
  best_chooses x y = by (total x y)
    where
      by : R x y ⊎ R y x → (best x y ≡ x) ⊎ (best x y ≡ y)
      by (inl h) = inr (up x y h)
      by (inr h) = inl (down x y h)

  pub best_assoc : (x y z : W) → best (best x y) z ≡ best x (best y z)
  best_assoc x y z = by (total x y) (total y z)
    where
      by : R x y ⊎ R y x → R y z ⊎ R z y → best (best x y) z ≡ best x (best y z)
      by (inl h) (inl k) = ap (λ w. best w z) (up x y h) ∙ up y z k ∙ sym (ap (best x) (up y z k) ∙ up x z (trans x y z h k))
      by (inl h) (inr k) = ap (λ w. best w z) (up x y h) ∙ down y z k ∙ sym (ap (best x) (down y z k) ∙ up x y h)
      by (inr h) (inl k) = ap (λ w. best w z) (down x y h) ∙ sym (ap (best x) (up y z k))
      by (inr h) (inr k) = ap (λ w. best w z) (down x y h) ∙ down x z (trans z y x k h) ∙ sym (ap (best x) (down y z k) ∙ down x y h)

  -- what keeps the order goes through it
  pub best_through : (f : W → W) → ((x y : W) → R x y → R (f x) (f y)) → (x y : W) → f (best x y) ≡ best (f x) (f y)
  best_through f mono x y = by (total x y)
    where
      by : R x y ⊎ R y x → f (best x y) ≡ best (f x) (f y)
      by (inl h) = ap f (up x y h) ∙ sym (up (f x) (f y) (mono x y h))
      by (inr h) = ap f (down x y h) ∙ sym (down (f x) (f y) (mono y x h))
