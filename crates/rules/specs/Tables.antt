-- The tables that rounds make of credentials, and the reasons of their entries.
use Rattle.std.specs.Prelude.{◌≡◌, ℕ, zero, suc, ◌<◌, List, [], ◌∷◌, map, None, Option, ◌≢◌}
use Rattle.std.proofs.Math.Logic.{ite}
use Rattle.credential.specs.Same.{Credential}
use Rattle.scale.specs.Scale.{Meaning}
use Rattle.scale.specs.Order.{weight_same}
use Rattle.rules.specs.declared.memberships.Membership.{Membership}
use Rattle.rules.specs.declared.memberships.Reason.{Reason}
use Rattle.rules.specs.System.{Candidate, System, Table, weighs, after, Closed}
use Rattle.rules.specs.Ways.{Way, ways}

abbrev pub because : ℕ → ℕ → Reason
because p k = record { place = p; middle = record { 0 = k } }

abbrev pub no_reason : Reason
no_reason = because 65535 0

module _ {S : Type 0} (M : Meaning S) where
  -- a way as a candidate, its credential aside
  abbrev pub candidate : Way S → Candidate Membership S
  candidate w = record { weight = w.weight; premises = w.premises }

  -- what a way gives by a table
  abbrev pub weight_by : Table Membership S → Way S → Option S
  weight_by t w = weighs M t (candidate w)

  -- the first way that gives w by a table
  abbrev pub first_with : Table Membership S → Option S → List (Way S) → Reason
  first_with t w [] = no_reason
  first_with t w (y ∷ ys) = ite (weight_same M (weight_by t y) w) (because y.place y.middle) (first_with t w ys)

  -- with E entities enrolled
  module _ (E : ℕ) (cs : List Credential) where
    abbrev pub system : System Membership S
    system q = map candidate (ways M E cs q)

    -- the table after k rounds, at first none
    abbrev pub table : ℕ → Table Membership S
    table = after M system

    -- the round after k changes nothing
    abbrev pub Still : ℕ → Type 0
    Still k = (q : Membership) → table (suc k) q ≡ table k q

    -- rounds go on until one changes nothing, and that one counts
    pub record Rounds (n : ℕ) : Type 0 where
      pub last : (k : ℕ) × (n ≡ suc k) × Still k
      pub earlier : (k : ℕ) → suc k < n → (q : Membership) × (table (suc k) q ≢ table k q)

    -- a membership settled
    abbrev pub Settled : ℕ → Membership → Type 0
    Settled n q = table n q ≡ None → ⊥

    -- each entry weighs at least what a round makes of it
    abbrev pub ClosedTable : Table Membership S → Type 0
    ClosedTable t = Closed M system t

    -- a round that makes an entry strictly better gives it the first way with the new weight
    abbrev pub reason : ℕ → Membership → Reason
    reason zero q = no_reason
    reason (suc k) q = ite (weight_same M (table (suc k) q) (table k q)) (reason k q) (first_with (table k) (table (suc k) q) (ways M E cs q))
