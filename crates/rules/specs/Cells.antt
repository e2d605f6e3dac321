-- The cells of a table: the memberships that a list of credentials can settle, numbered.
use Rattle.std.specs.Prelude.{ℕ, suc, cond, List, [], ◌∷◌, ◌++◌, map, is_some, Some, None, filter, Option}
use Rattle.std.specs.Option.{option_map}
use Rattle.credential.specs.declared.Role.{Role}
use Rattle.credential.specs.Same.{Credential, same_role}
use Rattle.scale.specs.Scale.{Meaning}
use Rattle.rules.specs.declared.memberships.Membership.{Membership}
use Rattle.rules.specs.declared.memberships.Reason.{Reason}
use Rattle.rules.specs.Ways.{belongs, below}
use Rattle.rules.specs.Tables.{table, reason}

-- roles other than r
abbrev pub others : Role → List Role → List Role
others r [] = []
others r (a ∷ rs) = cond (same_role a r) (others r rs) (a ∷ others r rs)

-- the distinct heads, in order of first place
abbrev pub heads : List Credential → List Role
heads [] = []
heads (c ∷ cs) = c.head ∷ others c.head (heads cs)

-- the number of a role among some
abbrev pub number : List Role → Role → Option ℕ
number [] r = None
number (a ∷ rs) r = cond (same_role a r) (Some 0) (option_map suc (number rs r))

-- the memberships of some roles and the entities below E, so that the one at head number times E plus
-- member is that member's in that head
abbrev pub cells_of : ℕ → List Role → List Membership
cells_of E [] = []
cells_of E (r ∷ rs) = map (belongs r) (below E) ++ cells_of E rs

abbrev pub cells : ℕ → List Credential → List Membership
cells E cs = cells_of E (heads cs)

-- the weights of all cells after k rounds
abbrev pub weights_after : {S : Type 0} → Meaning S → ℕ → List Credential → ℕ → List (Option S)
weights_after M E cs k = map (table M E cs k) (cells E cs)

-- the reasons of all cells after k rounds
abbrev pub reasons_after : {S : Type 0} → Meaning S → ℕ → List Credential → ℕ → List Reason
reasons_after M E cs k = map (reason M E cs k) (cells E cs)

-- the memberships settled after k rounds
abbrev pub settled : {S : Type 0} → Meaning S → ℕ → List Credential → ℕ → List Membership
settled M E cs k = filter (λ q. is_some (table M E cs k q)) (cells E cs)
