-- How the spelling of a number begins: the test that stands before `parse`, which takes other spellings too.
use Rattle.std.specs.Prelude.{ℕ, Bool, true, false, ◌&&◌, ◌||◌, List, [], ◌∷◌, ◌==◌, nat_le}

-- a digit from 1 to 9
abbrev pub nonzero : ℕ → Bool
nonzero b = nat_le 49 b && nat_le b 57

-- such a digit comes first
abbrev pub opens : List ℕ → Bool
opens [] = false
opens (b ∷ bs) = nonzero b

-- no bytes follow
abbrev pub none : List ℕ → Bool
none [] = true
none (b ∷ bs) = false

-- a lone 0, a digit from 1 to 9, or a minus with such a digit after it
abbrev pub plain : List ℕ → Bool
plain [] = false
plain (b ∷ bs) = (b == 48 && none bs) || (nonzero b || (b == 45 && opens bs))
