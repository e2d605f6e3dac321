-- The laws of the scale of distances, for every maximum.
use Rattle.std.specs.Prelude.{◌≡◌, ℕ, suc, ◌+◌, ◌<◌, ◌≤◌, min, Bool, true, false, cond, T, ◌⊎◌, Some, None, Option, nat_le, refl}
use Rattle.std.proofs.Common.{ap, inl, inr, arith, leb-true, leb-false}
use Rattle.std.proofs.Math.Decide.{ℕ_discrete, dec_le}
use Rattle.scale.specs.declared.distance.Distance.{Distance}
use Rattle.scale.specs.Same.{distance_is}
use Rattle.scale.specs.Scale.{Meaning, Laws, Chooses, Strict, Stricter, better_of, combined, full_weight}
use Rattle.scale.specs.Order.{none_some, cond_chooses}
use Rattle.scale.specs.Distance.{distance_meaning, points_if}

module _ (most : ℕ) where
  abbrev m : Meaning (Distance most)
  m = distance_meaning most

  -- one more than the maximum for none, and the points for any other: no two have one cost
  abbrev cost : Option (Distance most) → ℕ
  cost None = suc most
  cost (Some a) = a.points

  cost_is' : (x y : Option (Distance most)) → cost x ≡ cost y → x ≡ y
  cost_is' None None e = refl
  cost_is' None (Some b) e = absurd (omega (arith, b.ok))
  cost_is' (Some a) None e = absurd (omega (arith, a.ok))
  cost_is' (Some a) (Some b) e = ap Some (distance_is a b e)

  cost_is : {x y : Option (Distance most)} → cost x ≡ cost y → x ≡ y
  cost_is {x} {y} e = cost_is' x y e

  cost_most : (x : Option (Distance most)) → cost x ≤ suc most
  cost_most None = omega arith
  cost_most (Some a) = omega (arith, a.ok)

  pick_least : (t : Bool) (a b : Distance most) → nat_le a.points b.points ≡ t → (cond t a b).points ≡ min a.points b.points
  pick_least true a b e = omega (arith, leb-true a.points b.points e)
  pick_least false a b e = omega (arith, leb-false a.points b.points e)

  cost_better : (x y : Option (Distance most)) → cost (better_of m x y) ≡ min (cost x) (cost y)
  cost_better None y = omega (arith, cost_most y)
  cost_better (Some a) None = omega (arith, a.ok)
  cost_better (Some a) (Some b) = pick_least _ a b refl

  cost_kept : (n : ℕ) (t : Bool) (h : T t → n ≤ most) → nat_le n most ≡ t → cost (points_if most n t h) ≡ min n (suc most)
  cost_kept n true h e = omega (arith, h tt)
  cost_kept n false h e = omega (arith, leb-false n most e)

  cost_combined : (x y : Option (Distance most)) → cost (combined m x y) ≡ min (cost x + cost y) (suc most)
  cost_combined None y = omega arith
  cost_combined (Some a) None = omega arith
  cost_combined (Some a) (Some b) = cost_kept _ _ _ refl

  pub distance_chooses : Chooses m
  distance_chooses None b = inr refl
  distance_chooses (Some a) None = inl refl
  distance_chooses (Some a) (Some b) = cond_chooses _ a b

  pub distance_laws : Laws m
  distance_laws = record {
    distinct = none_some;
    better_comm = λ x y. cost_is (omega (arith, cost_better x y, cost_better y x));
    better_assoc = λ x y z. cost_is (omega (arith, cost_better x y, cost_better y z, cost_better (better_of m x y) z, cost_better x (better_of m y z)));
    better_none = λ x. refl;
    better_full = λ x. cost_is (omega (arith, cost_better (full_weight m) x));
    combine_comm = λ x y. cost_is (omega (arith, cost_combined x y, cost_combined y x));
    combine_assoc = λ x y z. cost_is (omega (arith, cost_combined x y, cost_combined y z, cost_combined (combined m x y) z, cost_combined x (combined m y z)));
    combine_none = λ x. refl;
    combine_full = λ x. cost_is (omega (arith, cost_combined (full_weight m) x, cost_most x));
    distributes = λ x y z. cost_is (omega (arith, cost_better y z, cost_combined x (better_of m y z), cost_combined x y, cost_combined x z, cost_better (combined m x y) (combined m x z)));
  }

  cheaper : (x y : Option (Distance most)) → Stricter m x y → cost x < cost y
  cheaper x y s = by (ℕ_discrete (cost x) (cost y))
    where
      by : Dec (cost x ≡ cost y) → cost x < cost y
      by (yes e) = absurd (s.1 (cost_is e))
      by (no n) = omega (arith, cost_better x y, ap cost s.0, n)

  stricter : (x y : Option (Distance most)) → cost x < cost y → Stricter m x y
  stricter x y h = (cost_is (omega (arith, cost_better x y)), λ e. omega (arith, ap cost e))

  pub distance_strict : Strict m
  distance_strict x y z s = by (dec_le (suc most) (cost z + cost x))
    where
      by : Dec (suc most ≤ cost z + cost x) → Stricter m (combined m z x) (combined m z y) ⊎ ((combined m z x ≡ None) × (combined m z y ≡ None))
      by (yes h) = inr (cost_is (omega (arith, cost_combined z x)), cost_is (omega (arith, cost_combined z y, cheaper x y s)))
      by (no n) = inl (stricter _ _ (omega (arith, n, cost_combined z x, cost_combined z y, cheaper x y s)))
