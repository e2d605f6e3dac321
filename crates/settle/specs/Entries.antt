-- The entries of the lists that a round works on: for the inner functions of a round.
use Rattle.std.specs.Prelude.{◌≡◌, ℕ, ◌+◌, ◌*◌, ◌<◌, ◌≤◌, cond, List, [], ◌∷◌, length, Some, None, Option, ◌≢◌, IfSome, nat_lt, slice_index_or}
use Rattle.std.specs.Borrow.{Bor}
use Rattle.std.proofs.Math.Logic.{ite}
use Rattle.credential.specs.declared.Role.{Role}
use Rattle.scale.specs.Scale.{Meaning, better_of}
use Rattle.scale.specs.Order.{weight_same}
use Rattle.rules.specs.declared.memberships.Membership.{Membership}
use Rattle.rules.specs.declared.memberships.Reason.{Reason}
use Rattle.rules.specs.System.{Table}
use Rattle.rules.specs.Ways.{belongs, Way}
use Rattle.rules.specs.Tables.{because, no_reason, weight_by}
use Rattle.rules.specs.Cells.{number}

pub record Entry (S : Type 0) : Type 0 where
  pub weight : Option S
  pub reason : Reason

abbrev pub entry : {S : Type 0} → Option S → Reason → Entry S
entry w r = record { weight = w; reason = r }

abbrev pub entry_at : {S : Type 0} → List (Option S) → List Reason → ℕ → Entry S
entry_at ws rs i = record { weight = slice_index_or ws i None; reason = slice_index_or rs i no_reason }

module _ {S : Type 0} (m : Meaning S) where
  -- a strictly better offer takes the entry, with its reason
  abbrev pub taken : Option S → Reason → Entry S → Entry S
  taken w r e = record { weight = better_of m e.weight w; reason = ite (weight_same m (better_of m e.weight w) e.weight) e.reason r }

  -- the ways of a list offered in turn
  abbrev pub offered : Table Membership S → List (Way S) → Entry S → Entry S
  offered t [] e = e
  offered t (y ∷ ys) e = offered t ys (taken (weight_by m t y) (because y.place y.middle) e)

-- what a list has for a head's number and a member
abbrev pub weight_at : {S : Type 0} → List (Option S) → ℕ → Option ℕ → ℕ → Option S
weight_at ws E None x = None
weight_at ws E (Some h) x = slice_index_or ws (h * E + x) None

-- what a row has for a member, where there is a row
abbrev pub in_row : {S : Type 0} → Option (Bor (List (Option S))) → ℕ → Option S
in_row None x = None
in_row (Some row) x = slice_index_or row.now x None

-- a row, where there is one, has n entries, and w says each
pub record IsRow {S : Type 0} (n : ℕ) (w : ℕ → Option S) (row : Option (Bor (List (Option S)))) : Type 0 where
  pub long : IfSome row (λ r. length r.now ≡ n)
  pub same : (x : ℕ) → x < n → in_row row x ≡ w x

-- a list of so many has the row of a head
abbrev pub Held : ℕ → ℕ → Option ℕ → Type 0
Held len E None = Unit {0}
Held len E (Some h) = h * E + E ≤ len

-- the table that a list shows
abbrev pub shown : {S : Type 0} → List Role → ℕ → List (Option S) → Table Membership S
shown rs E ws q = cond (nat_lt q.member.0 E) (weight_at ws E (number rs q.role) q.member.0) None

-- one entry is changed by f
pub record Put {X : Type 0} (i : ℕ) (f : X → X) (start end : ℕ → X) : Type 0 where
  pub here : end i ≡ f (start i)
  pub elsewhere : (j : ℕ) → (j ≢ i) → end j ≡ start j

-- the first n entries are changed, each by its own f
pub record Front {X : Type 0} (n : ℕ) (f : ℕ → X → X) (start end : ℕ → X) : Type 0 where
  pub within : (x : ℕ) → x < n → end x ≡ f x (start x)
  pub outside : (j : ℕ) → n ≤ j → end j ≡ start j

-- the n entries from base on are changed, each by its own f
pub record Row {X : Type 0} (base n : ℕ) (f : ℕ → X → X) (start end : ℕ → X) : Type 0 where
  pub within : (x : ℕ) → x < n → end (base + x) ≡ f x (start (base + x))
  pub outside : (j : ℕ) → ((x : ℕ) → x < n → j ≢ base + x) → end j ≡ start j

-- the row of a head, where there is one
abbrev pub RowOf : {X : Type 0} → Option ℕ → ℕ → (ℕ → X → X) → (ℕ → X) → (ℕ → X) → Type 0
RowOf None E f start end = (j : ℕ) → end j ≡ start j
RowOf (Some h) E f start end = Row (h * E) E f start end

-- each cell is changed, by its membership's f
abbrev pub Spread : {X : Type 0} → List Role → ℕ → (Membership → X → X) → (ℕ → X) → (ℕ → X) → Type 0
Spread rs E f start end = (r : Role) (h x : ℕ) → number rs r ≡ Some h → x < E → end (h * E + x) ≡ f (belongs r x) (start (h * E + x))
