-- The scale of distances, from 0 to `most` points: less is better, and distances add up.
use Rattle.std.specs.Prelude.{ℕ, zero, suc, ◌+◌, ◌≤◌, Bool, true, false, cond, T, ℤ, pos, negsuc, Some, None, Option, nat_le}
use Rattle.std.proofs.Common.{le_refl, leb→le, zero-le}
use Rattle.scale.specs.declared.distance.Distance.{Distance}
use Rattle.scale.specs.Same.{distance_same}
use Rattle.scale.specs.Scale.{Meaning}

module _ (most : ℕ) where
  -- n points, with the proof that they are within the maximum
  abbrev pub points_of : (n : ℕ) → n ≤ most → Distance most
  points_of n h = record { points = n; ok = h }

  abbrev pub points_if : (n : ℕ) (t : Bool) → (T t → n ≤ most) → Option (Distance most)
  points_if n true h = Some (points_of n (h tt))
  points_if n false h = None

  -- None above the maximum
  abbrev pub points_up_to : ℕ → Option (Distance most)
  points_up_to n = points_if n (nat_le n most) (leb→le n most)

  -- 0 to the maximum as it is, all else unreadable
  abbrev pub distance_stated : ℤ → Option (Distance most)
  distance_stated (pos n) = points_up_to n
  distance_stated (negsuc n) = None

  -- -1 as the maximum
  abbrev pub distance_asked : ℤ → Option (Distance most)
  distance_asked (pos n) = distance_stated (pos n)
  distance_asked (negsuc zero) = Some (points_of most (le_refl most))
  distance_asked (negsuc (suc n)) = None

  abbrev pub distance_meaning : Meaning (Distance most)
  distance_meaning = record {
    full = points_of 0 zero-le;
    better = λ a b. cond (nat_le a.points b.points) a b;
    combine = λ a b. points_up_to (a.points + b.points);
    same = distance_same;
    credential = λ stated. distance_stated stated.distance;
    threshold = λ stated. distance_asked stated.distance;
  }
