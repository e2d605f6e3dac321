-- What a settled table explains, of which the reasons are at hand.
use Rattle.std.specs.Prelude.{◌≡◌, ℕ, ◌≤◌, List, take, Some}
use Rattle.credential.specs.Same.{Credential}
use Rattle.scale.specs.Scale.{Meaning}
use Rattle.rules.specs.declared.memberships.Membership.{Membership}
use Rattle.rules.specs.declared.memberships.Reason.{Reason}
use Rattle.rules.specs.declared.memberships.Step.{Step}
use Rattle.rules.specs.Tables.{table, Still, Settled}
use Rattle.rules.specs.Cells.{reasons_after}
use Rattle.rules.specs.Grants.{Granted}
use Rattle.rules.specs.Derivation.{Derivation}
use Rattle.derivation.specs.Trail.{cell_count}

module _ {S : Type 0} (M : Meaning S) (E : ℕ) (cs : List Credential) (reasons : List Reason) (goal : Membership) where
  -- n rounds settle the table, these are the reasons of its cells, and it has the goal
  pub record Reasoned (n : ℕ) : Type 0 where
    pub still : Still M E cs n
    pub are : reasons ≡ reasons_after M E cs n
    pub settled : Settled M E cs n goal

  -- so many steps are written: those of the reasons, which are a derivation with the settled weight
  pub record Explained (before after : List Step) (count : ℕ) : Type 0 where
    pub granted : (n : ℕ) → Reasoned n → Granted M E cs n goal before after count
    pub derives : (n : ℕ) (w : S) → Reasoned n → table M E cs n goal ≡ Some w → Derivation M cs goal w (take count after)
    pub few : count ≤ cell_count cs E
