-- What a part of the program says, and what a cursor over parts has still to hand out.
use Rattle.std.specs.Prelude.{ℕ, Bool, true, false, List, [], ◌∷◌, Some, None, Option}
use Rattle.words.specs.declared.part.Part.{Part}
use Rattle.words.specs.declared.part.Parts.{Parts}
use Rattle.words.specs.Split.{split, placed, Placed}

-- the bytes that p borrows, and their place
abbrev pub told : Part → Placed
told p = record { byte = p.byte; text = p.text.now }

-- the parts of p between single separators, if there is such a part
abbrev pub parts_of : ℕ → Option Part → List Placed
parts_of sep None = []
parts_of sep (Some p) = placed p.byte (split sep p.text.now)

-- the parts not handed out yet
abbrev pub todo : Parts → List Placed
todo s = parts_of s.sep s.rest

abbrev pub none : List Placed → Bool
none [] = true
none (p ∷ ps) = false
