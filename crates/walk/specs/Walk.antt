-- What reasons lead to, and the order in which it is listed.
use Rattle.std.specs.Prelude.{◌≡◌, ℕ, ◌-◌, ◌<◌, ◌≤◌, cond, ◌⊎◌, List, length, Some, None, Option, is_none, slice_index, slice_index_or}
use Rattle.std.specs.Option.{option_or}
use Rattle.walk.specs.declared.reasons.CellStep.{CellStep}

-- the number of a cell, where it has one yet
abbrev pub number_in : List (Option ℕ) → ℕ → Option ℕ
number_in numbers c = slice_index_or numbers c None

-- the cell, where it has no number yet
abbrev pub opened : List (Option ℕ) → Option ℕ → Option ℕ
opened numbers None = None
opened numbers (Some c) = cond (is_none (number_in numbers c)) (Some c) None

abbrev pub open_premise : List (Option ℕ) → CellStep → Option ℕ
open_premise numbers w = option_or (opened numbers w.first) (opened numbers w.second)

-- a cell that the step rests on
abbrev pub Premise : CellStep → ℕ → Type 0
Premise w p = (w.first ≡ Some p) ⊎ (w.second ≡ Some p)

module _ (leads : ℕ → CellStep) where
  -- what the reasons lead to from the goal
  pub data Reached (goal : ℕ) : ℕ → Type 0 where
    here : Reached goal goal
    onward : {c p : ℕ} → Reached goal c → Premise (leads c) p → Reached goal p

  -- some number falls from each cell to those that it rests on
  pub record Acyclic (n : ℕ) : Type 0 where
    pub rank : ℕ → ℕ
    pub inside : (c p : ℕ) → c < n → Premise (leads c) p → p < n
    pub falls : (c p : ℕ) → c < n → Premise (leads c) p → rank p < rank c

  -- what is reached from the goal, each cell once, premises first and goal last; and each one's number
  pub record Ordered (n goal : ℕ) (numbers : List (Option ℕ)) (order : List ℕ) : Type 0 where
    pub some : 0 < length order
    pub few : length order ≤ n
    pub inside : (k : ℕ) → k < length order → slice_index order k < n
    pub numbered : (k : ℕ) → k < length order → number_in numbers (slice_index order k) ≡ Some k
    pub first : (k p : ℕ) → k < length order → Premise (leads (slice_index order k)) p → (j : ℕ) × (j < k) × (number_in numbers p ≡ Some j) × (slice_index order j ≡ p)
    pub reached : (k : ℕ) → k < length order → Reached goal (slice_index order k)
    pub last : slice_index_or order (length order - 1) 0 ≡ goal
