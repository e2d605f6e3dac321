-- The lines of an input.
use Rattle.std.proofs.Common.{◌≡◌, ℕ, ◌+◌, List, [], ◌∷◌, length, refl, ap}
use Rattle.words.specs.Split.{placed}
use Rattle.session.specs.Turns.{texts}

pub texts_placed : (n : ℕ) (ls : List (List ℕ)) → texts (placed n ls) ≡ ls
texts_placed n [] = refl
texts_placed n (l ∷ ls) = ap (λ k. l ∷ k) (texts_placed (n + length l + 1) ls)
