-- The parts of a text between single separators, where each starts, and the law of cutting and joining.
-- A text is the list of its bytes.
use Rattle.std.specs.Prelude.{◌≡◌, ℕ, ◌+◌, List, [], ◌∷◌, ◌++◌, length, ◌==◌, ◌≢◌}
use Rattle.std.specs.List.{slice_split}

-- the parts: each separator ends one, and the last is what follows, so that an empty text is one empty part
abbrev pub split : ℕ → List ℕ → List (List ℕ)
split sep bs = slice_split (λ b. b == sep) bs

-- a part and the byte where it starts
pub record Placed : Type 0 where
  pub byte : ℕ
  pub text : List ℕ

-- the parts with their places, where the first starts at n: one separator stands between two parts
abbrev pub placed : ℕ → List (List ℕ) → List Placed
placed n [] = []
placed n (w ∷ ws) = record { byte = n; text = w } ∷ placed (n + length w + 1) ws

-- the parts with a separator before each
abbrev pub after : ℕ → List (List ℕ) → List ℕ
after sep [] = []
after sep (w ∷ ws) = sep ∷ (w ++ after sep ws)

-- the parts with a separator between any two
abbrev pub rejoin : ℕ → List (List ℕ) → List ℕ
rejoin sep [] = []
rejoin sep (w ∷ ws) = w ++ after sep ws

-- no byte is a separator
abbrev pub Lacks : ℕ → List ℕ → Type 0
Lacks sep [] = Unit {0}
Lacks sep (b ∷ bs) = (b ≢ sep) × Lacks sep bs

-- no part has a separator
abbrev pub EachLacks : ℕ → List (List ℕ) → Type 0
EachLacks sep [] = Unit {0}
EachLacks sep (w ∷ ws) = Lacks sep w × EachLacks sep ws

-- the parts joined are the text, no part has a separator, and no other parts are like that
pub record Splits (sep : ℕ) : Type 0 where
  pub whole : (l : List ℕ) → rejoin sep (split sep l) ≡ l
  pub parts : (l : List ℕ) → EachLacks sep (split sep l)
  pub only : (w : List ℕ) (ws : List (List ℕ)) → EachLacks sep (w ∷ ws) → split sep (rejoin sep (w ∷ ws)) ≡ w ∷ ws
