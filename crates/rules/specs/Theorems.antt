-- What is true of every scale and every list of credentials.
use Rattle.std.specs.Prelude.{◌≡◌, ℕ, suc, ◌<◌, ◌≤◌, List, length, Some, None}
use mathlib.Core.List.{Memᴰ}
use Rattle.std.specs.List.{slice_get}
use Rattle.credential.specs.declared.Record.{Record}
use Rattle.credential.specs.declared.Body.{Body}
use Rattle.credential.specs.declared.Body.TheVariants.{Member, Delegation, Link, Intersection}
use Rattle.credential.specs.Same.{Credential}
use Rattle.scale.specs.Scale.{Meaning, AtLeast}
use Rattle.rules.specs.declared.memberships.Membership.{Membership}
use Rattle.rules.specs.declared.memberships.Step.{Step}
use Rattle.rules.specs.Derivation.{Derivation}
use Rattle.rules.specs.System.{Table}
use Rattle.rules.specs.Ways.{Way}
use Rattle.rules.specs.Tables.{because, no_reason, weight_by, table, Still, Rounds, Settled, ClosedTable, reason}
use Rattle.rules.specs.Reasons.{Earned, Leads}

-- every member that a credential names is enrolled, that is, below E
abbrev pub MemberBelow : ℕ → Body Record → Type 0
MemberBelow E (Member x w) = x.0 < E
MemberBelow E (Delegation b) = Unit {0}
MemberBelow E (Link b t) = Unit {0}
MemberBelow E (Intersection b c) = Unit {0}

abbrev pub MembersEnrolled : ℕ → List Credential → Type 0
MembersEnrolled E cs = (p : ℕ) (c : Credential) → slice_get cs p ≡ Some c → MemberBelow E c.body

module _ {S : Type 0} (M : Meaning S) where
  -- the table when a round changes nothing is closed, and every closed table weighs at least as much
  abbrev pub LeastClosed : Type 0
  LeastClosed =
      (E : ℕ) (cs : List Credential) (k : ℕ) → Still M E cs k
      → ClosedTable M E cs (table M E cs k)
      × ((t : Table Membership S) → ClosedTable M E cs t → (q : Membership) → AtLeast M (t q) (table M E cs k q))

  -- rounds are at most one more than the memberships in any list that has all that are settled
  abbrev pub RoundsBounded : Type 0
  RoundsBounded =
      (E : ℕ) (cs : List Credential) (n : ℕ) → Rounds M E cs n
      → (settled : List Membership) → ((q : Membership) → Settled M E cs n q → Memᴰ q settled)
      → n ≤ suc (length settled)

  -- reasons never lead back to themselves, whichever of several equal ways is named: all that is asked
  -- of a named way is that it gave the weight in the round that first gave it
  abbrev pub NeverLeadsBack : Type 0
  NeverLeadsBack =
      (E : ℕ) (cs : List Credential) (n : ℕ) (why : Membership → Way S)
      → ((q : Membership) → Settled M E cs n q → Earned M E cs n q (why q))
      → (q : Membership) → Leads M E cs n why q q → ⊥

  -- the reason of a membership settled names such a way, and an entry that is not settled has none
  abbrev pub ReasonsAreEarned : Type 0
  ReasonsAreEarned =
      (E : ℕ) (cs : List Credential) (n : ℕ) (q : Membership)
      → (Settled M E cs n q → (w : Way S) × (reason M E cs n q ≡ because w.place w.middle) × Earned M E cs n q w)
      × (table M E cs n q ≡ None → reason M E cs n q ≡ no_reason)

  -- in the final table an entry is exactly what its reason's way weighs there
  abbrev pub ReasonsWeigh : Type 0
  ReasonsWeigh =
      (E : ℕ) (cs : List Credential) (n : ℕ) → Still M E cs n
      → (q : Membership) (w : Way S) → Earned M E cs n q w → weight_by M (table M E cs n) w ≡ table M E cs n q

  -- every derivation of a membership weighs at most its entry in a closed table
  abbrev pub DerivationsBelow : Type 0
  DerivationsBelow =
      (E : ℕ) (cs : List Credential) → MembersEnrolled E cs
      → (t : Table Membership S) → ClosedTable M E cs t
      → (q : Membership) (w : S) (steps : List Step) → Derivation M cs q w steps → AtLeast M (t q) (Some w)

  -- for every membership settled some derivation weighs exactly its entry, after any number of rounds
  abbrev pub DerivationsReach : Type 0
  DerivationsReach =
      (E : ℕ) (cs : List Credential) (n : ℕ) (q : Membership) (w : S) → table M E cs n q ≡ Some w
      → (steps : List Step) × Derivation M cs q w steps
