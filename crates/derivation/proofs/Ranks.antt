-- A number of each cell that falls from a cell to the premises of its earned weight.
use Rattle.std.proofs.Common.{◌≡◌, ℕ, suc, ◌+◌, ◌*◌, ◌<◌, ◌≤◌, ◌⊎◌, List, [], ◌∷◌, None, Option, sym, refl, ap, subst, inl, inr, zero-le, mul-le-mul_right, suc-mul, arith}
use mathlib.Core.List.{Memᴰ}
use Rattle.scale.specs.Scale.{Meaning, Laws, better_of, AtLeast, Stricter}
use Rattle.scale.specs.Order.{weight_same}
use Rattle.rules.specs.System.{System, after}
use Rattle.rules.proofs.Order.{at_least_trans, at_least_antisym, at_least_none}
use Rattle.rules.proofs.Rounds.{later}
use Rattle.rules.proofs.Reasons.{Earned, premise_above, premise_earlier}

-- how many of a list pass a test
abbrev one_if : {A : Type 0} → Dec A → ℕ
one_if (yes _) = 1
one_if (no _) = 0

unfoldable counted : {C : Type 0} {P : C → Type 0} → ((c : C) → Dec (P c)) → List C → ℕ
counted test [] = 0
counted test (c ∷ cs) = one_if (test c) + counted test cs

one_if_le : {A B : Type 0} (a : Dec A) (b : Dec B) → (A → B) → one_if a ≤ one_if b
one_if_le (yes x) (yes y) f = omega arith
one_if_le (yes x) (no y) f = absurd (y (f x))
one_if_le (no x) b f = zero-le

one_if_less : {A B : Type 0} (a : Dec A) (b : Dec B) → (A → ⊥) → B → one_if a < one_if b
one_if_less (yes x) b f y = absurd (f x)
one_if_less (no x) (yes z) f y = omega arith
one_if_less (no x) (no z) f y = absurd (z y)

module _ {C : Type 0} {P Q : C → Type 0} (p : (c : C) → Dec (P c)) (q : (c : C) → Dec (Q c)) (f : (c : C) → P c → Q c) where
  counted_le : (cs : List C) → counted p cs ≤ counted q cs
  unfolding counted
  counted_le [] = zero-le
  counted_le (c ∷ cs) = omega (arith, one_if_le (p c) (q c) (f c), counted_le cs)

  counted_less : (cs : List C) {d : C} → Memᴰ d cs → (P d → ⊥) → Q d → suc (counted p cs) ≤ counted q cs
  unfolding counted
  counted_less [] m n y = elim m [ ]
  counted_less (c ∷ cs) (Memᴰ.head e) n y = omega (arith, one_if_less (p c) (q c) (λ x. n (subst P (sym e) x)) (subst Q e y), counted_le cs)
  counted_less (c ∷ cs) (Memᴰ.tail m) n y = omega (arith, one_if_le (p c) (q c) (f c), counted_less cs m n y)

module _ {S C : Type 0} (M : Meaning S) (laws : Laws M) (y : System C S) (n : ℕ) where
  stricter? : (a b : Option S) → Dec (Stricter M a b)
  stricter? a b = by (weight_same M (better_of M a b) a) (weight_same M a b)
    where
      by : Dec (AtLeast M a b) → Dec (a ≡ b) → Dec (Stricter M a b)
      by (yes h) (yes e) = no (λ r. r.1 e)
      by (yes h) (no e) = yes (h, e)
      by (no h) e = no (λ r. h r.0)

  abbrev final : C → Option S
  final = after M y n

  earned_settled : (c : C) → Earned M laws y n c → after M y n c ≡ None → ⊥
  earned_settled c e z =
      let low : AtLeast M None (after M y e.before c) = subst (λ x. AtLeast M x (after M y e.before c)) z (later M laws y e.before n (omega (arith, e.within)) c) in
      e.not_yet (subst (λ x. after M y e.before c ≡ x) (sym z) (at_least_antisym M laws _ _ (at_least_none M laws _) low))

  -- a premise of an earned weight has a weight
  pub premise_settled : (c p : C) (e : Earned M laws y n c) → Memᴰ p e.way.premises → after M y n p ≡ None → ⊥
  premise_settled c p e m z = earned_settled c e (at_least_antisym M laws _ _ (at_least_none M laws _) (subst (λ x. AtLeast M x (final c)) z (premise_above M laws y n c e p m)))

  module _ (cells : List C) where
    -- how many cells weigh strictly more in the end
    better_than : C → ℕ
    better_than c = counted (λ d. stricter? (final d) (final c)) cells

    same_count : (c p : C) → final p ≡ final c → better_than p ≡ better_than c
    unfolding better_than
    same_count c p e = ap (λ w. counted (λ d. stricter? (final d) w) cells) e

    fewer : (c p : C) → Memᴰ p cells → Stricter M (final p) (final c) → suc (better_than p) ≤ better_than c
    unfolding better_than
    fewer c p m h =
        counted_less (λ d. stricter? (final d) (final p)) (λ d. stricter? (final d) (final c))
        (λ d k. (at_least_trans M laws _ _ _ k.0 h.0, λ e. k.1 (at_least_antisym M laws _ _ k.0 (subst (AtLeast M (final p)) (sym e) h.0))))
        cells m (λ k. k.1 refl) h

    arithmetic : (a b k r q : ℕ) → r ≤ k → ((a ≡ b) × (r < q)) ⊎ (suc a ≤ b) → a * suc k + r < b * suc k + q
    arithmetic a b k r q h (inl e) = let m : a * suc k ≡ b * suc k = ap (λ z. z * suc k) e.0 in omega (arith, m, e.1)
    arithmetic a b k r q h (inr e) =
        let m : suc a * suc k ≤ b * suc k = mul-le-mul_right (suc k) e in
        let d = suc-mul a (suc k) in
        omega (arith, m, d)

    -- the cells that weigh more come first, and of equal weights the one that was earned earlier
    pub rank : (c : C) → Earned M laws y n c → ℕ
    rank c e = better_than c * suc n + e.before

    pub rank_falls : (c p : C) (e : Earned M laws y n c) (f : Earned M laws y n p) → Memᴰ p cells → Memᴰ p e.way.premises → rank p f < rank c e
    unfolding rank
    rank_falls c p e f inside m = arithmetic _ _ n f.before e.before (omega (arith, f.within)) (cases (weight_same M (final p) (final c)))
      where
        cases : Dec (final p ≡ final c) → ((better_than p ≡ better_than c) × (f.before < e.before)) ⊎ (suc (better_than p) ≤ better_than c)
        cases (yes same) = inl (same_count c p same, premise_earlier M laws y n c e p f m same)
        cases (no differs) = inr (fewer c p inside (premise_above M laws y n c e p m, differs))
