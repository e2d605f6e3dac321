-- The best of a list, taken from the left.
use Rattle.std.proofs.Common.{◌≡◌, List, [], ◌∷◌, fold, Option, sym, ◌∙◌}
use Rattle.scale.specs.Scale.{Meaning, Laws, better_of}
use Rattle.scale.specs.Order.{better_none_right}
use Rattle.scale.specs.Best.{best_of}

module _ {S : Type 0} {m : Meaning S} (laws : Laws m) where
  -- from the left as from the right
  pub best_by_fold : (x : Option S) (xs : List (Option S)) → fold (better_of m) x xs ≡ better_of m x (best_of m xs)
  best_by_fold x [] = sym (better_none_right m laws x)
  best_by_fold x (y ∷ ys) = best_by_fold (better_of m x y) ys ∙ laws.better_assoc x y (best_of m ys)
