-- A text always has a first part.
use Rattle.std.proofs.Common.{◌≡◌, ℕ, ◌<◌, false, eqb, List, [], ◌∷◌, length, Some, None, Option, refl, arith}
use Rattle.std.specs.Prelude.{not}
use Rattle.std.specs.Option.{is_some}
use Rattle.words.specs.declared.part.Part.{Part}
use Rattle.std.proofs.lemmas.List.Splits.{length-slice_split}
use Rattle.words.specs.Split.{split, placed}
use Rattle.words.specs.Cursor.{none, parts_of}

some : (n : ℕ) (ws : List (List ℕ)) → 0 < length ws → none (placed n ws) ≡ false
some n [] h = absurd (omega arith)
some n (w ∷ ws) h = refl

some_part : (n sep : ℕ) (l : List ℕ) → none (placed n (split sep l)) ≡ false
some_part n sep l = some n (split sep l) (omega (arith, length-slice_split (λ b. eqb b sep) l))

pub none_of : (sep : ℕ) (rest : Option Part) → none (parts_of sep rest) ≡ not (is_some rest)
none_of sep None = refl
none_of sep (Some p) = some_part p.byte sep p.text.now
