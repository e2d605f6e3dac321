-- The steps that reasons lead to: what a grant writes.
use Rattle.std.specs.Prelude.{◌≡◌, ℕ, suc, ◌<◌, cond, List, [], ◌∷◌, ◌++◌, map, length, drop, Some, None, Option}
use mathlib.Core.List.{Memᴰ}
use Rattle.std.specs.List.{slice_get}
use Rattle.credential.specs.declared.Record.{Record}
use Rattle.credential.specs.declared.Body.{Body}
use Rattle.credential.specs.declared.Body.TheVariants.{Member, Delegation, Link, Intersection}
use Rattle.credential.specs.Same.{Credential}
use Rattle.scale.specs.Scale.{Meaning}
use Rattle.rules.specs.declared.memberships.Membership.{Membership}
use Rattle.rules.specs.declared.memberships.Step.{Step}
use Rattle.rules.specs.Ways.{belongs, role_of}
use Rattle.rules.specs.Tables.{reason}
use Rattle.rules.specs.Derivation.{same_membership}

-- what a body rests on for the member x and the middle k, in the rule's order
abbrev pub rests_by : ℕ → ℕ → Body Record → List Membership
rests_by x k (Member y w) = []
rests_by x k (Delegation b) = belongs b x ∷ []
rests_by x k (Link b t) = belongs b k ∷ belongs (role_of k t) x ∷ []
rests_by x k (Intersection b c) = belongs b x ∷ belongs c x ∷ []

abbrev pub rests_with : ℕ → ℕ → Option Credential → List Membership
rests_with x k None = []
rests_with x k (Some c) = rests_by x k c.body

-- the first place of a membership in a list
abbrev pub place_in : List Membership → Membership → ℕ
place_in [] q = 0
place_in (p ∷ ps) q = cond (same_membership p q) 0 (suc (place_in ps q))

-- a premise cited by its place in a list; 0 where there is none
abbrev pub cite : List Membership → Option Membership → ℕ
cite order None = 0
cite order (Some p) = place_in order p

-- by the reasons after n rounds
module _ {S : Type 0} (M : Meaning S) (E : ℕ) (cs : List Credential) (n : ℕ) where
  -- what a membership rests on by its reason
  abbrev pub rests_on : Membership → List Membership
  rests_on q = rests_with q.member.0 (reason M E cs n q).middle.0 (slice_get cs (reason M E cs n q).place)

  -- what the reasons lead to from the goal, the goal among it
  pub data Reached (goal : Membership) : Membership → Type 0 where
    here : Reached goal goal
    onward : {q p : Membership} → Reached goal q → Memᴰ p (rests_on q) → Reached goal p

  -- exactly the memberships that the reasons lead to from the goal, each once, premises first and goal last
  pub record Listing (goal : Membership) (order : List Membership) : Type 0 where
    pub once : (j k : ℕ) (q : Membership) → slice_get order j ≡ Some q → slice_get order k ≡ Some q → j ≡ k
    pub premises : (k : ℕ) (q p : Membership) → slice_get order k ≡ Some q → Memᴰ p (rests_on q) → (j : ℕ) × (j < k) × (slice_get order j ≡ Some p)
    pub reached : (k : ℕ) (q : Membership) → slice_get order k ≡ Some q → Reached goal q
    pub complete : (q : Membership) → Reached goal q → (k : ℕ) × (slice_get order k ≡ Some q)
    pub last : (k : ℕ) × (length order ≡ suc k) × (slice_get order k ≡ Some goal)

  -- the step of a membership: its reason, and its premises by their places in the list
  abbrev pub step_in : List Membership → Membership → Step
  step_in order q = record {
    place = (reason M E cs n q).place;
    member = q.member;
    middle = (reason M E cs n q).middle;
    first = cite order (slice_get (rests_on q) 0);
    second = cite order (slice_get (rests_on q) 1);
  }

  -- so many steps are written in such an order, and all beyond is unchanged; only the order is free
  pub record Granted (goal : Membership) (before after : List Step) (count : ℕ) : Type 0 where
    pub order : List Membership
    pub listing : Listing goal order
    pub many : count ≡ length order
    pub written : after ≡ map (step_in order) order ++ drop (length order) before
