-- What the code's tests on a signed field say of the number in it.
use Rattle.std.proofs.Common.{◌≡◌, ℕ, ◌≤◌, Bool, true, false, T, leb, ℤ, pos, negsuc, nat_abs, ◌≤ℤ◌, Some, sym, ap, ◌∙◌, le_refl, arith, leb→le, le-leb, w32, SFits, of_z, to_z}
use Rattle.std.proofs.lemmas.Int.{ints, to_z-of_z}
use Rattle.scale.specs.declared.ceiling.Ceiling.{Ceiling}
use Rattle.scale.specs.declared.distance.Distance.{Distance}
use Rattle.scale.specs.Same.{ceiling_is, distance_is}
use Rattle.scale.specs.Ceiling.{bytes_of, bytes_if, ceiling_reading}
use Rattle.scale.specs.Distance.{points_of, points_if, distance_stated, distance_asked}

-- a field as a call takes it
abbrev pub kept : ℤ → ℤ
kept z = to_z w32 (of_z w32 z)

module _ (most : ℕ) where
  ceiling_kept : (n : ℕ) (t : Bool) (h : T t → n ≤ most) (a : Ceiling most) → t ≡ true → a.bytes ≡ n → Some a ≡ bytes_if most n t h
  ceiling_kept n true h a e v = ap Some (ceiling_is a (bytes_of most n (h tt)) v)
  ceiling_kept n false h a e v = absurd (let z : ◌≡◌ {A = ℕ} 0 1 = cc in omega arith)

  -- a field that is not negative
  ceiling_from : (u : Ceiling most) (z : ℤ) (a : Ceiling most) → pos 0 ≤ℤ z → a.bytes ≡ nat_abs z → Some a ≡ ceiling_reading most u z
  ceiling_from u (pos n) a h v = ceiling_kept n (leb n most) (leb→le n most) a (le-leb n most (omega (arith, a.ok, v))) v
  ceiling_from u (negsuc n) a h v = absurd (omega (arith, ints))

  pub ceiling_read : (u : Ceiling most) (z : ℤ) → SFits w32 z → (a : Ceiling most) → pos 0 ≤ℤ kept z → a.bytes ≡ nat_abs (kept z) → Some a ≡ ceiling_reading most u z
  ceiling_read u z f a h v = let e = to_z-of_z w32 z f in ceiling_from u z a (rw e at h) (v ∙ ap nat_abs e)

  pub distance_kept : (n : ℕ) (t : Bool) (h : T t → n ≤ most) (a : Distance most) → t ≡ true → a.points ≡ n → Some a ≡ points_if most n t h
  distance_kept n true h a e v = ap Some (distance_is a (points_of most n (h tt)) v)
  distance_kept n false h a e v = absurd (let z : ◌≡◌ {A = ℕ} 0 1 = cc in omega arith)

  distance_from : (z : ℤ) (a : Distance most) → pos 0 ≤ℤ z → a.points ≡ nat_abs z → Some a ≡ distance_stated most z
  distance_from (pos n) a h v = distance_kept n (leb n most) (leb→le n most) a (le-leb n most (omega (arith, a.ok, v))) v
  distance_from (negsuc n) a h v = absurd (omega (arith, ints))

  pub distance_read : (z : ℤ) → SFits w32 z → (a : Distance most) → pos 0 ≤ℤ kept z → a.points ≡ nat_abs (kept z) → Some a ≡ distance_stated most z
  distance_read z f a h v = let e = to_z-of_z w32 z f in distance_from z a (rw e at h) (v ∙ ap nat_abs e)

  asking_from : (z : ℤ) (a : Distance most) → pos 0 ≤ℤ z → a.points ≡ nat_abs z → Some a ≡ distance_asked most z
  asking_from (pos n) a h v = distance_from (pos n) a h v
  asking_from (negsuc n) a h v = absurd (omega (arith, ints))

  pub distance_asking : (z : ℤ) → SFits w32 z → (a : Distance most) → pos 0 ≤ℤ kept z → a.points ≡ nat_abs (kept z) → Some a ≡ distance_asked most z
  distance_asking z f a h v = let e = to_z-of_z w32 z f in asking_from z a (rw e at h) (v ∙ ap nat_abs e)

  -- a field of -1
  pub distance_unlimited : (z : ℤ) → z ≡ negsuc 0 → (a : Distance most) → a.points ≡ most → Some a ≡ distance_asked most z
  distance_unlimited z e a v = ap Some (distance_is a (points_of most most (le_refl most)) v) ∙ sym (ap (distance_asked most) e)
