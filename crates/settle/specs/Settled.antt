-- What settling leaves.
use Rattle.std.specs.Prelude.{ℕ, suc, ◌≤◌, List, length}
use Rattle.credential.specs.Same.{Credential}
use Rattle.scale.specs.Scale.{Meaning, AtLeast}
use Rattle.rules.specs.declared.memberships.Membership.{Membership}
use Rattle.rules.specs.System.{Table}
use Rattle.rules.specs.Tables.{table, Still, Rounds, ClosedTable}
use Rattle.rules.specs.Cells.{settled}

-- after n rounds, with E entities enrolled
pub record Settles {S : Type 0} (M : Meaning S) (E : ℕ) (cs : List Credential) (n : ℕ) : Type 0 where
  -- the last of them changed nothing, and each earlier one something
  pub rounds : Rounds M E cs n
  pub still : Still M E cs n
  -- the table is closed, and every closed table weighs at least as much
  pub closed : ClosedTable M E cs (table M E cs n)
  pub least : (t : Table Membership S) → ClosedTable M E cs t → (q : Membership) → AtLeast M (t q) (table M E cs n q)
  -- rounds are at most one more than the memberships settled
  pub bounded : n ≤ suc (length (settled M E cs n))
