-- Which cell is which membership's.
use Rattle.std.proofs.Common.{◌≡◌, ℕ, zero, suc, ◌+◌, ◌-◌, ◌*◌, ◌<◌, ◌≤◌, true, false, ◌⊎◌, List, [], ◌∷◌, ◌++◌, map, length, get_or, Some, sym, refl, ap, ◌∙◌, subst, inl, inr, suc-mul, arith, length-append}
use lib.ListN.{length-map}
use Rattle.std.specs.Option.{option_map}
use Rattle.std.proofs.lemmas.List.{get_or_append_left, get_or-append_right, get_or_push, get_or-map}
use Rattle.std.proofs.lemmas.Bool.{cases_lt}
use Rattle.scale.specs.Order.{some_is}
use Rattle.credential.specs.declared.Role.{Role}
use Rattle.credential.specs.Same.{same_role}
use Rattle.rules.specs.declared.memberships.Membership.{Membership}
use Rattle.rules.specs.Ways.{belongs, below}
use Rattle.rules.specs.Cells.{number, cells_of}
use Rattle.rules.proofs.Listed.{role_self}
use Rattle.heads.proofs.Roles.{which, numbered_first, numbered_later, one_less}
use Rattle.heads.proofs.Distinct.{Unrepeated}

pub length_below : (n : ℕ) → length (below n) ≡ n
length_below zero = refl
length_below (suc n) = length-append (below n) (n ∷ []) ∙ omega (arith, length_below n)

get_or_below : (n x d : ℕ) → x < n → get_or (below n) x d ≡ x
get_or_below zero x d h = absurd (omega arith)
get_or_below (suc n) x d h = by (cases_lt x n) (get_or_below n x d)
  where
    by : (x < n) ⊎ (n ≤ x) → (x < n → get_or (below n) x d ≡ x) → get_or (below n ++ (n ∷ [])) x d ≡ x
    by (inl l) again = get_or_append_left (below n) (n ∷ []) d x (omega (arith, length_below n)) ∙ again l
    by (inr l) again = let e : x ≡ n = omega arith in get_or_push (below n) n d x (length_below n ∙ sym e) ∙ sym e

module _ (E : ℕ) where
  length_row : (r : Role) → length (map (belongs r) (below E)) ≡ E
  length_row r = length-map (below E) (belongs r) ∙ length_below E

  row_at : (r : Role) (x : ℕ) (d : Membership) → x < E → get_or (map (belongs r) (below E)) x d ≡ belongs r x
  row_at r x d h = get_or-map (belongs r) (below E) x x d (omega (arith, length_below E)) ∙ ap (belongs r) (get_or_below E x x h)

  pub length_cells : (rs : List Role) → length (cells_of E rs) ≡ length rs * E
  length_cells [] = omega arith
  length_cells (r ∷ rs) = length-append (map (belongs r) (below E)) (cells_of E rs) ∙ omega (arith, length_row r, length_cells rs, suc-mul (length rs) E)

  pub cell_of : (rs : List Role) (r : Role) (h x : ℕ) → number rs r ≡ Some h → x < E → (h * E + x < length (cells_of E rs)) × ((d : Membership) → get_or (cells_of E rs) (h * E + x) d ≡ belongs r x)
  cell_of [] r h x e l = cc
  cell_of (b ∷ rs) r h x e l = by (which b r) (cell_of rs r)
    where
      by : ((b ≡ r) × (same_role b r ≡ true)) ⊎ ((b ≡ r → ⊥) × (same_role b r ≡ false)) → ((k y : ℕ) → number rs r ≡ Some k → y < E → (k * E + y < length (cells_of E rs)) × ((d : Membership) → get_or (cells_of E rs) (k * E + y) d ≡ belongs r y)) → (h * E + x < length (cells_of E (b ∷ rs))) × ((d : Membership) → get_or (cells_of E (b ∷ rs)) (h * E + x) d ≡ belongs r x)
      by (inl p) again =
          let z : 0 ≡ h = some_is (sym (numbered_first b rs r p.1) ∙ e) in
          subst (λ (i : ℕ). (i * E + x < length (cells_of E (b ∷ rs))) × ((d : Membership) → get_or (cells_of E (b ∷ rs)) (i * E + x) d ≡ belongs r x)) z (
            rw length-append (omega (arith, length_row b)),
            λ d. ap (λ i. get_or (cells_of E (b ∷ rs)) i d) (omega arith) ∙ get_or_append_left (map (belongs b) (below E)) (cells_of E rs) d x (omega (arith, length_row b)) ∙ row_at b x d l ∙ ap (λ a. belongs a x) p.0,
          )
      by (inr p) again =
          let k = one_less (number rs r) h (sym (numbered_later b rs r p.1) ∙ e) in
          let i = k.0 in
          let rest = again i x k.1 l in
          let below_all = rest.0 in
          let at : h * E + x ≡ E + (i * E + x) = ap (λ j. j * E + x) k.2 ∙ omega (arith, suc-mul i E) in (
            rw length-append (omega (arith, length_row b, at, below_all)),
            λ d. get_or-append_right (map (belongs b) (below E)) (cells_of E rs) E (h * E + x) d (length_row b) (omega (arith, at)) ∙ ap (λ j. get_or (cells_of E rs) j d) (omega (arith, at)) ∙ rest.1 d,
          )

  -- some membership's cell
  pub record Cell (rs : List Role) (i : ℕ) : Type 0 where
    pub role : Role
    pub head : ℕ
    pub member : ℕ
    pub numbered : number rs role ≡ Some head
    pub within : member < E
    pub is : i ≡ head * E + member

  pub cell_from : (rs : List Role) → Unrepeated rs → (i : ℕ) → i < length (cells_of E rs) → Cell rs i
  cell_from [] u i l = absurd (omega arith)
  cell_from (b ∷ rs) u i l = by (cases_lt i E) (cell_from rs u.1)
    where
      by : (i < E) ⊎ (E ≤ i) → ((j : ℕ) → j < length (cells_of E rs) → Cell rs j) → Cell (b ∷ rs) i
      by (inl k) again = record { role = b; head = 0; member = i; numbered = numbered_first b rs b (role_self b); within = k; is = omega arith }
      by (inr k) again =
          let c = again (i - E) (omega (arith, length-append (map (belongs b) (below E)) (cells_of E rs), length_row b)) in
          later c (which b c.role)
        where
          later : (c : Cell rs (i - E)) → ((b ≡ c.role) × (same_role b c.role ≡ true)) ⊎ ((b ≡ c.role → ⊥) × (same_role b c.role ≡ false)) → Cell (b ∷ rs) i
          later c (inl p) = cc (ap (number rs) p.0, u.0, c.numbered)
          later c (inr p) = record {
            role = c.role;
            head = suc c.head;
            member = c.member;
            numbered = numbered_later b rs c.role p.1 ∙ ap (option_map suc) c.numbered;
            within = c.within;
            is = omega (arith, c.is, suc-mul c.head E);
          }
