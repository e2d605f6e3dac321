-- The integer of 32 signed bits that a text spells. The one spelling of a number z is `signed_decimal z`, the text
-- that `{n}` writes: decimal digits with no leading zero, after a minus where z is negative.
use Rattle.std.specs.Prelude.{◌≡◌, ℕ, ◌^◌, Bool, cond, ◌&&◌, List, ℤ, Some, None, Option, MatchOption, FitsSigned, ◌≢◌, nat_lt}
use Rattle.std.specs.Int.Signed.{mag}
use Rattle.std.specs.Int.{w32}
use Rattle.std.specs.Str.Parse.{signed_digits_value}
use Rattle.std.specs.Str.{bytes_eq}
use Rattle.std.specs.Fmt.{signed_decimal}

-- bs is the spelling of the number that its digits give, and that is from - 2 ^ 31 to 2 ^ 31 - 1
abbrev pub canonical : List ℕ → Bool
canonical bs = bytes_eq (signed_decimal (signed_digits_value 10 bs)) bs && nat_lt (mag (signed_digits_value 10 bs)) (2 ^ 31)

-- the number whose spelling bs is, if it fits 32 signed bits
abbrev pub integer : List ℕ → Option ℤ
integer bs = cond (canonical bs) (Some (signed_digits_value 10 bs)) None

-- r is the number of 32 signed bits that bs spells, or nothing where bs spells none
abbrev pub Reads : List ℕ → Option ℤ → Type 0
Reads bs r = MatchOption r ((z : ℤ) → FitsSigned w32 z → signed_decimal z ≢ bs) (λ z. (signed_decimal z ≡ bs) × FitsSigned w32 z)

-- every number is read from its spelling, and none from any other text
pub record Exact : Type 0 where
  pub spelled : (z : ℤ) → FitsSigned w32 z → integer (signed_decimal z) ≡ Some z
  pub reads : (bs : List ℕ) → Reads bs (integer bs)
