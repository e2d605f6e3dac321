-- What a round changed, by a flag for each head's row, and so what the next one works through.
use Rattle.std.specs.Prelude.{◌≡◌, ℕ, ◌+◌, ◌*◌, ◌<◌, Bool, true, false, ◌||◌, List, [], ◌∷◌, Some, None, is_none, filter, Option, slice_index_or}
use Rattle.std.specs.Borrow.{Bor}
use Rattle.std.specs.Option.{option_map}
use Rattle.credential.specs.declared.Role.{Role}
use Rattle.scale.specs.Scale.{Meaning, AtLeast}
use Rattle.rules.specs.declared.memberships.Membership.{Membership}
use Rattle.credential.specs.declared.Record.{Record}
use Rattle.credential.specs.declared.Body.{Body}
use Rattle.rules.specs.Ways.{Way, ways_by}
use Rattle.settle.specs.Entries.{Entry, offered, shown}
use Rattle.rules.specs.Cells.{number}

-- the flags, where there was a round to set them
abbrev pub flags : Option (Bor (List Bool)) → Option (List Bool)
flags changed = option_map (λ r. r.now) changed

-- the flag of a head's number; what is no head has no row, which never changes, and before the first round none did
abbrev pub flag_of : Option (List Bool) → Option ℕ → Bool
flag_of None h = false
flag_of (Some changed) None = false
flag_of (Some changed) (Some h) = slice_index_or changed h false

-- the row that a membership stands in changed
abbrev pub moved : List Role → Option (List Bool) → Membership → Bool
moved rs changed q = flag_of changed (number rs q.role)

-- a way with no premises is worth offering in the first round, and any other where a premise's row changed
abbrev pub worth_by : List Role → Option (List Bool) → List Membership → Bool
worth_by rs changed [] = is_none changed
worth_by rs changed (q ∷ []) = moved rs changed q
worth_by rs changed (q ∷ (p ∷ ps)) = moved rs changed q || worth_by rs changed (p ∷ ps)

abbrev pub worth : {S : Type 0} → List Role → Option (List Bool) → Way S → Bool
worth rs changed y = worth_by rs changed y.premises

-- what a body gives the entry of each member of its head, by the ways that are worth offering
abbrev pub gives : {S : Type 0} → Meaning S → List Role → ℕ → List (Option S) → Option (List Bool) → ℕ → Body Record → ℕ → Entry S → Entry S
gives m rs E former changed place body x e = offered m (shown rs E former) (filter (worth rs changed) (ways_by m E place body x)) e

-- some entry of the n from base on weighs more in vs than in ws, or none does
abbrev pub RowChanged : {S : Type 0} → Meaning S → List (Option S) → List (Option S) → ℕ → ℕ → Bool → Type 0
RowChanged m ws vs base n true = (x : ℕ) × (x < n) × (AtLeast m (slice_index_or ws (base + x) None) (slice_index_or vs (base + x) None) → ⊥)
RowChanged m ws vs base n false = (x : ℕ) → x < n → AtLeast m (slice_index_or ws (base + x) None) (slice_index_or vs (base + x) None)

-- some of the first n flags is set, or none is
abbrev pub AnySet : List Bool → ℕ → Bool → Type 0
AnySet changed n true = (h : ℕ) × (h < n) × (slice_index_or changed h false ≡ true)
AnySet changed n false = (h : ℕ) → h < n → slice_index_or changed h false ≡ false

-- n flags that say which rows of E changed from ws to vs, and whether one is set
pub record Noted {S : Type 0} (m : Meaning S) (E n : ℕ) (ws vs : List (Option S)) (changed : List Bool) (any : Bool) : Type 0 where
  pub rows : (h : ℕ) → h < n → RowChanged m ws vs (h * E) E (slice_index_or changed h false)
  pub some : AnySet changed n any
