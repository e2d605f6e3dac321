-- Roles by their test, and their numbers among some.
use Rattle.std.proofs.Common.{◌≡◌, ℕ, suc, ◌+◌, ◌*◌, ◌<◌, ◌≤◌, Bool, true, false, cond, ◌⊎◌, List, [], ◌∷◌, Some, None, Option, sym, refl, ap, ◌∙◌, subst, inl, inr, mul-le-mul_right, suc-mul, arith}
use Rattle.std.specs.Option.{option_map}
use Rattle.std.proofs.lemmas.Bool.{false≢true, cases_lt}
use Rattle.credential.specs.declared.Role.{Role}
use Rattle.credential.specs.Same.{same_role}
use Rattle.rules.specs.Cells.{number}
use Rattle.rules.proofs.Listed.{role_is, role_self}

-- the test of two roles, either way
pub which : (a b : Role) → ((a ≡ b) × (same_role a b ≡ true)) ⊎ ((a ≡ b → ⊥) × (same_role a b ≡ false))
which a b = by (same_role a b) refl
  where
    by : (v : Bool) → same_role a b ≡ v → ((a ≡ b) × (same_role a b ≡ true)) ⊎ ((a ≡ b → ⊥) × (same_role a b ≡ false))
    by true e = inl (role_is a b e, e)
    by false e = inr ((λ q. false≢true (sym e ∙ subst (λ (c : Role). same_role a c ≡ true) q (role_self a))), e)

pub numbered_first : (b : Role) (rs : List Role) (r : Role) → same_role b r ≡ true → number (b ∷ rs) r ≡ Some 0
numbered_first b rs r e = ap (λ (v : Bool). cond v (Some 0) (option_map suc (number rs r))) e

pub numbered_later : (b : Role) (rs : List Role) (r : Role) → same_role b r ≡ false → number (b ∷ rs) r ≡ option_map suc (number rs r)
numbered_later b rs r e = ap (λ (v : Bool). cond v (Some 0) (option_map suc (number rs r))) e

-- a number that is one more
pub one_less : (o : Option ℕ) (h : ℕ) → option_map suc o ≡ Some h → (k : ℕ) × (o ≡ Some k) × (h ≡ suc k)
one_less None h e = cc
one_less (Some k) h e = (k, refl, cc)

pub none_less : (o : Option ℕ) → option_map suc o ≡ None → o ≡ None
none_less None e = refl
none_less (Some k) e = cc

-- a number names one role
pub same_number : (rs : List Role) (r a : Role) (h : ℕ) → number rs r ≡ Some h → number rs a ≡ Some h → r ≡ a
same_number [] r a h e f = cc
same_number (b ∷ rs) r a h e f = by (which b r) (which b a) (same_number rs r a)
  where
    by : ((b ≡ r) × (same_role b r ≡ true)) ⊎ ((b ≡ r → ⊥) × (same_role b r ≡ false)) → ((b ≡ a) × (same_role b a ≡ true)) ⊎ ((b ≡ a → ⊥) × (same_role b a ≡ false)) → ((k : ℕ) → number rs r ≡ Some k → number rs a ≡ Some k → r ≡ a) → r ≡ a
    by (inl p) (inl q) again = cc
    by (inl p) (inr q) again =
        let k = one_less (number rs a) h (sym (numbered_later b rs a q.1) ∙ f) in
        cc (numbered_first b rs r p.1, k.2)
    by (inr p) (inl q) again =
        let k = one_less (number rs r) h (sym (numbered_later b rs r p.1) ∙ e) in
        cc (numbered_first b rs a q.1, k.2)
    by (inr p) (inr q) again =
        let k = one_less (number rs r) h (sym (numbered_later b rs r p.1) ∙ e) in
        let j = one_less (number rs a) h (sym (numbered_later b rs a q.1) ∙ f) in
        again k.0 k.1 (cc (j.1, j.2, k.2))

-- rows of different numbers have no cell in common
pub rows_apart : (E h to x y : ℕ) → (h ≡ to → ⊥) → x < E → y < E → h * E + x ≡ to * E + y → ⊥
rows_apart E h to x y n hx hy e = by (cases_lt h to)
  where
    by : (h < to) ⊎ (to ≤ h) → ⊥
    by (inl l) = omega (arith, mul-le-mul_right E l, suc-mul h E, e)
    by (inr l) = let k : to < h = omega arith in omega (arith, mul-le-mul_right E k, suc-mul to E, e)
