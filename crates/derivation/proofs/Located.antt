-- Which cell is which membership's, by the number of its head.
use Rattle.std.proofs.Common.{◌≡◌, ℕ, zero, suc, ◌+◌, ◌*◌, ◌%◌, ◌<◌, ◌≤◌, List, map, length, get_or, Some, None, Option, sym, refl, ap, ◌∙◌, arith}
use lib.Arith.{digits_mod}
use Rattle.std.specs.Option.{option_map}
use Rattle.credential.specs.declared.Role.{Role}
use Rattle.credential.specs.Same.{Credential}
use Rattle.scale.specs.Scale.{Meaning}
use Rattle.scale.specs.Best.{best_of}
use Rattle.scale.specs.Order.{none_some, some_is}
use Rattle.rules.specs.declared.memberships.Membership.{Membership}
use Rattle.rules.specs.System.{weighs}
use Rattle.rules.specs.Ways.{belongs, role_of}
use Rattle.rules.specs.Tables.{candidate, table}
use Rattle.rules.specs.Cells.{heads, number, cells}
use Rattle.heads.proofs.Distinct.{heads_unrepeated, no_ways}
use Rattle.heads.proofs.Cells as cells
use Rattle.heads.proofs.Fewer.{few_cells}
use Rattle.derivation.specs.Trail.{cell_count, cell_of}

-- a role that is no head has no members
pub no_members : {S : Type 0} (M : Meaning S) (E : ℕ) (cs : List Credential) (k : ℕ) (q : Membership) → number (heads cs) q.role ≡ None → table M E cs k q ≡ None
no_members M E cs zero q z = refl
no_members M E cs (suc k) q z = ap (λ l. best_of M (map (weighs M (table M E cs k)) (map (candidate M) l))) (no_ways M E 0 cs q.role q.member.0 z)

pub nowhere : Membership
nowhere = belongs (role_of 0 (record { 0 = 0 })) 0

-- the membership of a cell
abbrev pub at : ℕ → List Credential → ℕ → Membership
at E cs c = get_or (cells E cs) c nowhere

module _ (E : ℕ) (cs : List Credential) where
  abbrev in_row : ℕ → ℕ → ℕ
  in_row x h = h * E + x

  pub found : (q : Membership) → q.member.0 < E → (p : ℕ) → cell_of cs E q ≡ Some p → (at E cs p ≡ q) × (p < cell_count cs E)
  found q inside p e = by (number (heads cs) q.role) refl e
    where
      by : (o : Option ℕ) → number (heads cs) q.role ≡ o → option_map (in_row q.member.0) o ≡ Some p → (at E cs p ≡ q) × (p < cell_count cs E)
      by None n e = absurd (none_some e)
      by (Some h) n e =
          let k = cells.cell_of E (heads cs) q.role h q.member.0 n inside in
          let there : h * E + q.member.0 ≡ p = some_is e in
          (ap (at E cs) (sym there) ∙ k.1 nowhere, omega (arith, there, k.0, cells.length_cells E (heads cs)))

  pub has_cell : (q : Membership) → (number (heads cs) q.role ≡ None → ⊥) → (p : ℕ) × (cell_of cs E q ≡ Some p)
  has_cell q h = by (number (heads cs) q.role) refl
    where
      by : (o : Option ℕ) → number (heads cs) q.role ≡ o → (p : ℕ) × (option_map (in_row q.member.0) (number (heads cs) q.role) ≡ Some p)
      by None n = absurd (h n)
      by (Some k) n = (in_row q.member.0 k, ap (option_map (in_row q.member.0)) n)

  module _ (c : ℕ) (l : c < cell_count cs E) where
    spot : cells.Cell E (heads cs) c
    spot = cells.cell_from E (heads cs) (heads_unrepeated cs) c (omega (arith, cells.length_cells E (heads cs)))

    spot_is : at E cs c ≡ belongs spot.role spot.member
    spot_is = ap (at E cs) spot.is ∙ (cells.cell_of E (heads cs) spot.role spot.head spot.member spot.numbered spot.within).1 nowhere

    pub cell_back : cell_of cs E (at E cs c) ≡ Some c
    cell_back = ap (cell_of cs E) spot_is ∙ ap (option_map (in_row spot.member)) spot.numbered ∙ ap Some (sym spot.is)

    pub member_is : c % E ≡ (at E cs c).member.0
    member_is = ap (λ i. i % E) spot.is ∙ digits_mod spot.head spot.within ∙ sym (ap (λ q. q.member.0) spot_is)

  -- a cell is below 32,768
  pub cell_fits : E ≤ 64 → length cs ≤ 512 → (r : Role) (x h : ℕ) → x < E → Some h ≡ number (heads cs) r → h * E + x < 32768
  cell_fits few short r x h inside e =
      let k = cells.cell_of E (heads cs) r h x (sym e) inside in
      omega (arith, k.0, cells.length_cells E (heads cs), few_cells E (length (heads cs)) cs few short refl)
