-- The order of weights as the theory of rounds uses it, and the best of some.
use Rattle.std.proofs.Common.{◌≡◌, ◌⊎◌, List, [], ◌∷◌, None, Option, refl, ◌∙◌, inl, inr}
use mathlib.Core.List.{Memᴰ}
use Rattle.scale.specs.Scale.{Meaning, Laws, Chooses, better_of, combined, AtLeast}
use Rattle.scale.specs.Best.{best_of}
use Rattle.scale.specs.Order.{le_refl, le_trans, le_antisym, le_none, le_better, le_better_right, better_le, le_combined, le_combined_both, combined_le, combined_le_right}

module _ {S : Type 0} (M : Meaning S) (laws : Laws M) where
  pub at_least_refl : (a : Option S) → AtLeast M a a
  at_least_refl = le_refl M laws

  pub at_least_trans : (a b c : Option S) → AtLeast M a b → AtLeast M b c → AtLeast M a c
  at_least_trans a b c p q = le_trans M laws c b a q p

  pub at_least_antisym : (a b : Option S) → AtLeast M a b → AtLeast M b a → a ≡ b
  at_least_antisym a b p q = le_antisym M laws a b q p

  pub at_least_none : (a : Option S) → AtLeast M a None
  at_least_none = le_none M laws

  pub better_least : (u a b : Option S) → AtLeast M u a → AtLeast M u b → AtLeast M u (better_of M a b)
  better_least u a b p q = better_le M laws a b u p q

  pub combine_mono : (a b c : Option S) → AtLeast M b c → AtLeast M (combined M a b) (combined M a c)
  combine_mono a b c p = le_combined M laws a c b p

  pub combine_mono_both : (a b c d : Option S) → AtLeast M a c → AtLeast M b d → AtLeast M (combined M a b) (combined M c d)
  combine_mono_both a b c d p q = le_combined_both M laws c a d b p q

  -- combining never gains
  pub combine_below : (a b : Option S) → AtLeast M a (combined M a b)
  combine_below = combined_le M laws

  pub combine_below_right : (a b : Option S) → AtLeast M b (combined M a b)
  combine_below_right = combined_le_right M laws

  pub best_upper : {w : Option S} (ws : List (Option S)) → Memᴰ w ws → AtLeast M (best_of M ws) w
  best_upper {w} [] m = elim m [ ]
  best_upper {w} (x ∷ xs) (Memᴰ.head e) = rw e (le_better M laws x (best_of M xs))
  best_upper {w} (x ∷ xs) (Memᴰ.tail m) =
      at_least_trans (better_of M x (best_of M xs)) (best_of M xs) w (le_better_right M laws x (best_of M xs)) (best_upper xs m)

  pub best_least : (u : Option S) (ws : List (Option S)) → ((w : Option S) → Memᴰ w ws → AtLeast M u w) → AtLeast M u (best_of M ws)
  best_least u [] h = at_least_none u
  best_least u (x ∷ xs) h =
      better_least u x (best_of M xs) (h x (Memᴰ.head refl)) (best_least u xs (λ w m. h w (Memᴰ.tail m)))

  -- where better-of chooses, the best of some weights is one of them, or none
  pub best_picks : Chooses M → (ws : List (Option S)) → (best_of M ws ≡ None) ⊎ Memᴰ (best_of M ws) ws
  best_picks chooses [] = inl refl
  best_picks chooses (x ∷ xs) = go (chooses x (best_of M xs)) (best_picks chooses xs)
    where
      go : (better_of M x (best_of M xs) ≡ x) ⊎ (better_of M x (best_of M xs) ≡ best_of M xs) → (best_of M xs ≡ None) ⊎ Memᴰ (best_of M xs) xs → (better_of M x (best_of M xs) ≡ None) ⊎ Memᴰ (better_of M x (best_of M xs)) (x ∷ xs)
      go (inl e) r = inr (Memᴰ.head e)
      go (inr e) (inl n) = inl (e ∙ n)
      go (inr e) (inr m) = inr (Memᴰ.tail (rw e m))
