-- The scale of ceilings, from 0 to `most` bytes: more is better, and the lesser of two holds of both.
use Rattle.std.specs.Prelude.{ℕ, zero, suc, ◌≤◌, Bool, true, false, cond, T, ℤ, pos, negsuc, Some, None, Option, nat_le}
use Rattle.std.proofs.Common.{le_refl, leb→le, zero-le}
use Rattle.scale.specs.declared.ceiling.Ceiling.{Ceiling}
use Rattle.scale.specs.Same.{ceiling_same}
use Rattle.scale.specs.Scale.{Meaning}

module _ (most : ℕ) where
  -- n bytes, with the proof that they are within the maximum
  abbrev pub bytes_of : (n : ℕ) → n ≤ most → Ceiling most
  bytes_of n h = record { bytes = n; ok = h }

  abbrev pub bytes_if : (n : ℕ) (t : Bool) → (T t → n ≤ most) → Option (Ceiling most)
  bytes_if n true h = Some (bytes_of n (h tt))
  bytes_if n false h = None

  -- 0 to the maximum as it is, all else unreadable
  abbrev pub ceiling_stated : ℤ → Option (Ceiling most)
  ceiling_stated (pos n) = bytes_if n (nat_le n most) (leb→le n most)
  ceiling_stated (negsuc n) = None

  -- -1 as a ceiling of its own
  abbrev pub ceiling_reading : Ceiling most → ℤ → Option (Ceiling most)
  ceiling_reading unstated (pos n) = ceiling_stated (pos n)
  ceiling_reading unstated (negsuc zero) = Some unstated
  ceiling_reading unstated (negsuc (suc n)) = None

  abbrev pub ceiling_meaning : Meaning (Ceiling most)
  ceiling_meaning = record {
    full = bytes_of most (le_refl most);
    better = λ a b. cond (nat_le b.bytes a.bytes) a b;
    combine = λ a b. Some (cond (nat_le b.bytes a.bytes) b a);
    same = ceiling_same;
    credential = λ stated. ceiling_reading (bytes_of most (le_refl most)) stated.ceiling;
    threshold = λ stated. ceiling_reading (bytes_of 0 zero-le) stated.ceiling;
  }
