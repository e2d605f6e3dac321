-- The laws of the scale of ceilings, for every maximum.
use Rattle.std.specs.Prelude.{◌≡◌, ℕ, suc, ◌≤◌, min, max, Bool, true, false, cond, Some, None, Option, nat_le, refl}
use Rattle.std.proofs.Common.{sym, ap, inl, inr, arith, leb-true, leb-false}
use Rattle.scale.specs.declared.ceiling.Ceiling.{Ceiling}
use Rattle.scale.specs.Same.{ceiling_is}
use Rattle.scale.specs.Scale.{Meaning, Laws, Chooses, Solid, better_of, combined, full_weight}
use Rattle.scale.specs.Order.{none_some, cond_chooses}
use Rattle.scale.specs.Ceiling.{ceiling_meaning}

module _ (most : ℕ) where
  abbrev m : Meaning (Ceiling most)
  m = ceiling_meaning most

  -- 0 for none, and one more than the bytes for any other: no two have one height
  abbrev height : Option (Ceiling most) → ℕ
  height None = 0
  height (Some a) = suc a.bytes

  height_is' : (x y : Option (Ceiling most)) → height x ≡ height y → x ≡ y
  height_is' None None e = refl
  height_is' None (Some b) e = absurd (omega arith)
  height_is' (Some a) None e = absurd (omega arith)
  height_is' (Some a) (Some b) e = ap Some (ceiling_is a b (omega arith))

  height_is : {x y : Option (Ceiling most)} → height x ≡ height y → x ≡ y
  height_is {x} {y} e = height_is' x y e

  height_most : (x : Option (Ceiling most)) → height x ≤ suc most
  height_most None = omega arith
  height_most (Some a) = omega (arith, a.ok)

  pick_most : (t : Bool) (a b : Ceiling most) → nat_le b.bytes a.bytes ≡ t → suc (cond t a b).bytes ≡ max (suc a.bytes) (suc b.bytes)
  pick_most true a b e = omega (arith, leb-true b.bytes a.bytes e)
  pick_most false a b e = omega (arith, leb-false b.bytes a.bytes e)

  pick_least : (t : Bool) (a b : Ceiling most) → nat_le b.bytes a.bytes ≡ t → suc (cond t b a).bytes ≡ min (suc a.bytes) (suc b.bytes)
  pick_least true a b e = omega (arith, leb-true b.bytes a.bytes e)
  pick_least false a b e = omega (arith, leb-false b.bytes a.bytes e)

  height_better : (x y : Option (Ceiling most)) → height (better_of m x y) ≡ max (height x) (height y)
  height_better None y = omega arith
  height_better (Some a) None = omega arith
  height_better (Some a) (Some b) = pick_most _ a b refl

  height_combined : (x y : Option (Ceiling most)) → height (combined m x y) ≡ min (height x) (height y)
  height_combined None y = omega arith
  height_combined (Some a) None = omega arith
  height_combined (Some a) (Some b) = pick_least _ a b refl

  pub ceiling_chooses : Chooses m
  ceiling_chooses None b = inr refl
  ceiling_chooses (Some a) None = inl refl
  ceiling_chooses (Some a) (Some b) = cond_chooses _ a b

  pub ceiling_laws : Laws m
  ceiling_laws = record {
    distinct = none_some;
    better_comm = λ x y. height_is (omega (arith, height_better x y, height_better y x));
    better_assoc = λ x y z. height_is (omega (arith, height_better x y, height_better y z, height_better (better_of m x y) z, height_better x (better_of m y z)));
    better_none = λ x. refl;
    better_full = λ x. height_is (omega (arith, height_better (full_weight m) x, height_most x));
    combine_comm = λ x y. height_is (omega (arith, height_combined x y, height_combined y x));
    combine_assoc = λ x y z. height_is (omega (arith, height_combined x y, height_combined y z, height_combined (combined m x y) z, height_combined x (combined m y z)));
    combine_none = λ x. refl;
    combine_full = λ x. height_is (omega (arith, height_combined (full_weight m) x, height_most x));
    distributes = λ x y z. height_is (omega (arith, height_better y z, height_combined x (better_of m y z), height_combined x y, height_combined x z, height_better (combined m x y) (combined m x z)));
  }

  pub ceiling_solid : Solid m
  ceiling_solid a b e = none_some (sym e)
