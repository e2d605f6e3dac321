-- The steps of a grant.
use Rattle.std.specs.Prelude.{◌≡◌, ℕ, suc, ◌-◌, ◌<◌, cond, List, [], ◌∷◌, ◌++◌, map, length, drop, Some, None, Option, ◌==◌, ◌≢◌, slice_index, slice_index_or}
use Rattle.std.specs.Option.{unwrap_or}
use Rattle.rules.specs.declared.memberships.Step.{Step}
use Rattle.walk.specs.declared.reasons.CellStep.{CellStep}
use Rattle.walk.specs.Walk.{number_in, Premise, Reached}

-- the number of a premise, 0 for none
abbrev pub number_of : List (Option ℕ) → Option ℕ → ℕ
number_of numbers None = 0
number_of numbers (Some c) = unwrap_or (number_in numbers c) 0

abbrev pub numbered : List (Option ℕ) → CellStep → Step
numbered numbers w = record { place = w.place; member = w.member; middle = w.middle; first = number_of numbers w.first; second = number_of numbers w.second }

-- the first place of a cell in a list
unfoldable pub place_in : List ℕ → ℕ → ℕ
place_in [] c = 0
place_in (x ∷ xs) c = cond (x == c) 0 (suc (place_in xs c))

abbrev pub place_of : List ℕ → Option ℕ → ℕ
place_of order None = 0
place_of order (Some c) = place_in order c

-- the step, its premises cited by their places in the list, 0 for none
abbrev pub step_in : List ℕ → CellStep → Step
step_in order w = record { place = w.place; member = w.member; middle = w.middle; first = place_of order w.first; second = place_of order w.second }

module _ (leads : ℕ → CellStep) (goal : ℕ) where
  -- exactly the cells that the reasons lead to from the goal, each once, premises first and goal last
  pub record CellListing (order : List ℕ) : Type 0 where
    pub some : 0 < length order
    pub once : (j k : ℕ) → j < k → k < length order → slice_index order j ≢ slice_index order k
    pub premises : (k p : ℕ) → k < length order → Premise (leads (slice_index order k)) p → (j : ℕ) × (j < k) × (slice_index order j ≡ p)
    pub reached : (k : ℕ) → k < length order → Reached leads goal (slice_index order k)
    pub complete : (c : ℕ) → Reached leads goal c → (k : ℕ) × (k < length order) × (slice_index order k ≡ c)
    pub last : slice_index_or order (length order - 1) 0 ≡ goal

  -- so many steps are written in such an order, and all beyond is unchanged
  pub record CellGrant (before after : List Step) (count : ℕ) : Type 0 where
    pub order : List ℕ
    pub listing : CellListing order
    pub many : count ≡ length order
    pub written : after ≡ map (λ c. step_in order (leads c)) order ++ drop (length order) before
