-- When two weights are the same, by tests that compute. Each type says all that its test promises.
use Rattle.std.specs.Prelude.{◌≡◌, ℕ, ◌≤◌, Bool, true, false, not, T, ◌==◌, ◌≢◌}
use Rattle.std.proofs.Common.{ap, subst, eqb→eq, T_not}
use mathlib.Core.HLevel.{is_prop→PathP}
use Rattle.std.proofs.Math.Bridge.{le_prop}
use Rattle.std.proofs.Math.Dec.{eqb_refl}
use Rattle.scale.specs.declared.ceiling.Ceiling.{Ceiling}
use Rattle.scale.specs.declared.distance.Distance.{Distance}
use Rattle.scale.specs.declared.pair.Pair.{Pair}

abbrev pub decided : {P : Type 0} (t : Bool) → (T t → P) → (T (not t) → P → ⊥) → Dec P
decided true h n = yes (h tt)
decided false h n = no (n tt)

pub apart : (m n : ℕ) → T (not (m == n)) → m ≢ n
apart m n t e = T_not (m == n) t (subst (λ (k : ℕ). T (m == k)) e (eqb_refl m))

abbrev pub number_same : (m n : ℕ) → Dec (m ≡ n)
number_same m n = decided (m == n) (eqb→eq m n) (apart m n)

module _ {most : ℕ} where
  pub ceiling_is : (a b : Ceiling most) → a.bytes ≡ b.bytes → a ≡ b
  ceiling_is a b e i = record { bytes = e i; ok = is_prop→PathP (λ j. e j ≤ most) (λ j. le_prop) a.ok b.ok i }

  abbrev pub ceiling_by : (a b : Ceiling most) → Dec (a.bytes ≡ b.bytes) → Dec (a ≡ b)
  ceiling_by a b (yes e) = yes (ceiling_is a b e)
  ceiling_by a b (no n) = no (λ e. n (ap (λ (c : Ceiling most). c.bytes) e))

  abbrev pub ceiling_same : (a b : Ceiling most) → Dec (a ≡ b)
  ceiling_same a b = ceiling_by a b (number_same a.bytes b.bytes)

  pub distance_is : (a b : Distance most) → a.points ≡ b.points → a ≡ b
  distance_is a b e i = record { points = e i; ok = is_prop→PathP (λ j. e j ≤ most) (λ j. le_prop) a.ok b.ok i }

  abbrev pub distance_by : (a b : Distance most) → Dec (a.points ≡ b.points) → Dec (a ≡ b)
  distance_by a b (yes e) = yes (distance_is a b e)
  distance_by a b (no n) = no (λ e. n (ap (λ (c : Distance most). c.points) e))

  abbrev pub distance_same : (a b : Distance most) → Dec (a ≡ b)
  distance_same a b = distance_by a b (number_same a.points b.points)

module _ {A B : Type 0} where
  pub pair_is : (p q : Pair A B) → p.first ≡ q.first → p.second ≡ q.second → p ≡ q
  pair_is p q e f i = record { first = e i; second = f i }

  abbrev pub pair_same : (p q : Pair A B) → Dec (p.first ≡ q.first) → Dec (p.second ≡ q.second) → Dec (p ≡ q)
  pair_same p q (yes e) (yes f) = yes (pair_is p q e f)
  pair_same p q (yes e) (no n) = no (λ h. n (ap (λ (r : Pair A B). r.second) h))
  pair_same p q (no n) d = no (λ h. n (ap (λ (r : Pair A B). r.first) h))
