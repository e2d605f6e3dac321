-- The best of a list of weights.
use Rattle.std.specs.Prelude.{List, [], ◌∷◌, None, Option}
use Rattle.scale.specs.Scale.{Meaning, better_of}

abbrev pub best_of : {S : Type 0} → Meaning S → List (Option S) → Option S
best_of m [] = None
best_of m (x ∷ xs) = better_of m x (best_of m xs)
