-- A system of weighted rules over cells of any kind, and the tables that its rounds make.
use Rattle.std.specs.Prelude.{ℕ, zero, suc, List, [], ◌∷◌, map, None, Option}
use Rattle.scale.specs.Scale.{Meaning, combined, AtLeast}
use Rattle.scale.specs.Best.{best_of}

-- one way to a cell: a weight of its own, to be combined with those of its premises
pub record Candidate (C S : Type 0) : Type 0 where
  pub weight : Option S
  pub premises : List C

-- each cell has its candidates
abbrev pub System : Type 0 → Type 0 → Type 0
System C S = C → List (Candidate C S)

-- each cell has a weight
abbrev pub Table : Type 0 → Type 0 → Type 0
Table C S = C → Option S

module _ {S : Type 0} (M : Meaning S) where
  abbrev pub product : Option S → List (Option S) → Option S
  product w [] = w
  product w (v ∷ vs) = combined M v (product w vs)

  -- what a candidate gives by a table
  abbrev pub weighs : {C : Type 0} → Table C S → Candidate C S → Option S
  weighs t k = product k.weight (map t k.premises)

  -- a whole new table: each entry is the better-of of all that its candidates give
  abbrev pub round : {C : Type 0} → System C S → Table C S → Table C S
  round y t c = best_of M (map (weighs t) (y c))

  -- the table after k rounds, at first none
  abbrev pub after : {C : Type 0} → System C S → ℕ → Table C S
  after y zero = λ _. None
  after y (suc k) = round y (after y k)

  -- each entry weighs at least what a round makes of it
  abbrev pub Closed : {C : Type 0} → System C S → Table C S → Type 0
  Closed {C} y t = (c : C) → AtLeast M (t c) (round y t c)
