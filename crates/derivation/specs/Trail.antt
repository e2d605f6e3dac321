-- The step that a cell's reason makes, its premises named by cell.
use Rattle.std.specs.Prelude.{ℕ, ◌+◌, ◌*◌, ◌%◌, ◌<◌, ◌≤◌, List, length, Some, None, Option, slice_index_or}
use Rattle.std.specs.List.{slice_get}
use Rattle.std.specs.Option.{option_map}
use Rattle.credential.specs.Same.{Credential}
use Rattle.rules.specs.declared.memberships.Membership.{Membership}
use Rattle.rules.specs.declared.memberships.Reason.{Reason}
use Rattle.rules.specs.Tables.{no_reason}
use Rattle.rules.specs.Cells.{heads, number}
use Rattle.rules.specs.Grants.{rests_with}
use Rattle.walk.specs.declared.reasons.CellStep.{CellStep}

module _ (cs : List Credential) (E : ℕ) where
  -- one for each member that each head may have
  abbrev pub cell_count : ℕ
  cell_count = length (heads cs) * E

  -- head number times entities, plus member
  abbrev pub cell_of : Membership → Option ℕ
  cell_of q = option_map (λ h. h * E + q.member.0) (number (heads cs) q.role)

  abbrev pub cell_if : Option Membership → Option ℕ
  cell_if None = None
  cell_if (Some q) = cell_of q

  -- the step of a reason for the member x, with these premises
  abbrev pub cell_step : Reason → ℕ → List Membership → CellStep
  cell_step why x ps = record {
    place = why.place;
    member = record { 0 = x };
    middle = why.middle;
    first = cell_if (slice_get ps 0);
    second = cell_if (slice_get ps 1);
  }

  -- its premises are those that the rule of its credential needs
  abbrev pub step_by : Reason → ℕ → CellStep
  step_by why x = cell_step why x (rests_with x why.middle.0 (slice_get cs why.place))

  abbrev pub step_at : List Reason → ℕ → CellStep
  step_at reasons c = step_by (slice_index_or reasons c no_reason) (c % E)

  -- each cell has a reason, and its middle is enrolled
  pub record HasReasons (reasons : List Reason) : Type 0 where
    pub each : cell_count ≤ length reasons
    pub middles : (c : ℕ) → c < cell_count → (slice_index_or reasons c no_reason).middle.0 < E
