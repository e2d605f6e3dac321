-- What a walk from the goal's cell explains.
use Rattle.std.proofs.Common.{◌≡◌, ℕ, ◌≤◌, List, length, Some}
use Rattle.credential.specs.Same.{Credential}
use Rattle.scale.specs.Scale.{Meaning, Laws, Chooses}
use Rattle.rules.specs.declared.memberships.Membership.{Membership}
use Rattle.rules.specs.declared.memberships.Reason.{Reason}
use Rattle.rules.specs.declared.memberships.Step.{Step}
use Rattle.rules.specs.Grants.{Granted}
use Rattle.heads.specs.Enrolled.{AllIn}
use Rattle.walk.specs.Grant.{CellGrant}
use Rattle.derivation.specs.Trail.{cell_count, cell_of, step_at}
use Rattle.derivation.specs.Explained.{Reasoned, Explained}
use Rattle.derivation.proofs.Trails.{Grounded}
use Rattle.derivation.proofs.Listings as listings
use Rattle.derivation.proofs.Follows.{grant_derives}

module _ {S : Type 0} {M : Meaning S} {E : ℕ} {cs : List Credential} {reasons : List Reason} {goal : Membership} (laws : Laws M) (chooses : Chooses M) (known : AllIn E cs) (short : length cs ≤ 512) where
  pub ground : {n : ℕ} → Reasoned M E cs reasons goal n → Grounded M E cs reasons goal n
  ground r = record { laws = laws; chooses = chooses; known = known; short = short; reasoned = r }

  module _ (cell : ℕ) (found : cell_of cs E goal ≡ Some cell) (old new : List Step) (count : ℕ) (w : CellGrant (step_at cs E reasons) cell old new count) where
    granted : (n : ℕ) → Reasoned M E cs reasons goal n → Granted M E cs n goal old new count
    granted n r = listings.granted (ground r) cell found old new count w

    pub explained : count ≤ cell_count cs E → Explained M E cs reasons goal old new count
    explained few = record { granted = granted; derives = λ n v r is. grant_derives (ground r) old new count (granted n r) v is; few = few }
