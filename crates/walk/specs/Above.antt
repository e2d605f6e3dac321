-- A number or none as one number: one more than it, and 0 for none.
use Rattle.std.specs.Prelude.{◌≡◌, ℕ, zero, suc, Some, None, Option, refl}

abbrev pub number_below : ℕ → Option ℕ
number_below zero = None
number_below (suc n) = Some n

abbrev pub above_number : Option ℕ → ℕ
above_number None = zero
above_number (Some n) = suc n

pub back : (n : ℕ) → above_number (number_below n) ≡ n
back zero = refl
back (suc n) = refl
