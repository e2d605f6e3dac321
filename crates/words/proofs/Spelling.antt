-- The spelling of a number, and what `parse` reads from a text that begins as one.
use Rattle.std.proofs.Common.{◌≡◌, ℕ, zero, suc, ◌^◌, ◌<◌, ◌≤◌, Bool, true, false, cond, ◌&&◌, eqb, List, [], ◌∷◌, length, get_or, ℤ, pos, negsuc, neg_ℤ, Some, None, Ok, Err, IsUtf8, decimal, Option, Result, sym, refl, ap, ◌∙◌, subst, ⊎_elim, arith, w32, SFits}
use lib.Signed.{mag}
use Rattle.std.specs.Result.{result_ok}
use Rattle.std.specs.Str.{bytes_eq}
use Rattle.std.proofs.lemmas.Slice.Eq.{bytes_eq-Decides}
use Rattle.std.specs.Str.Parse.{AllDigits, digits_value, ParsesSigned, IsNumeral, without_leading_sign, signed_digits_value}
use Rattle.std.specs.Fmt.{signed_decimal}
use Rattle.std.proofs.lemmas.Fmt.{digits_decimal, decimal-digits_value, decimal_digit, decimal_nonempty, first_decimal, parse-signed_decimal, IsAscii-signed, signed_decimal_injective}
use Rattle.std.proofs.lemmas.Str.Parse.{IsNumeralModel, numerals_by_value, tells_digits, digit_at, parse_signed_plain, parse_signed_minus}
use Rattle.std.proofs.lemmas.Bool.{false≢true, both_ways, ltb-true, lt-ltb, le-leb, leb-true, or_cases, and_parts, eqb-true, or_right, or_left, and_from}
use Rattle.std.proofs.lemmas.Str.{IsUtf8-from_ascii}
use Rattle.words.specs.Begins.{plain, nonzero, opens, none}
use Rattle.words.specs.Integer.{canonical, integer, Reads, Exact}

-- what std's laws of `parse` are read through
pub own : IsNumeralModel (AllDigits 10) (digits_value 10)
own = numerals_by_value (AllDigits 10) tells_digits

pub small : (z : ℤ) → SFits w32 z → mag z < 2 ^ 63
small z f = omega (arith, f.sfits)

-- the spelling of a number begins so, and is text
opens_first : (bs : List ℕ) → 48 < get_or bs 0 0 → get_or bs 0 0 ≤ 57 → opens bs ≡ true
opens_first [] a b = absurd (omega arith)
opens_first (c ∷ cs) a b = and_from _ _ (le-leb 49 c (omega arith)) (le-leb c 57 (omega arith))

plain_opens : (bs : List ℕ) → opens bs ≡ true → plain bs ≡ true
plain_opens [] h = h
plain_opens (b ∷ bs) h = or_right (eqb b 48 && none bs) _ (or_left (nonzero b) _ h)

opens_decimal : (n : ℕ) → 0 < n → n < 2 ^ 64 → opens (decimal n) ≡ true
opens_decimal n more fits =
    opens_first (decimal n) (first_decimal n more fits) (digit_at (decimal n) 0 (digits_decimal own n fits) (decimal_nonempty n fits)).1

plain_signed : (z : ℤ) → mag z < 2 ^ 63 → plain (signed_decimal z) ≡ true
plain_signed (pos zero) h = ap plain (decimal_digit 0 (omega arith))
plain_signed (pos (suc n)) h = plain_opens (decimal (suc n)) (opens_decimal (suc n) (omega arith) (omega arith))
plain_signed (negsuc n) h = opens_decimal (suc n) (omega arith) (omega arith)

utf8_signed : (z : ℤ) → mag z < 2 ^ 63 → IsUtf8 (signed_decimal z)
utf8_signed z h = IsUtf8-from_ascii _ (IsAscii-signed z h)

-- a text that begins so and that `parse` reads is the spelling of what it reads
neg_signed : (m : ℕ) (ds : List ℕ) → decimal m ≡ ds → 48 < get_or ds 0 0 → signed_decimal (neg_ℤ (pos m)) ≡ 45 ∷ ds
neg_signed zero ds e h = absurd (omega (arith, ap (λ l. get_or l 0 0) (sym (decimal_digit 0 (omega arith)) ∙ e)))
neg_signed (suc k) ds e h = ap (λ l. 45 ∷ l) e

none_length : (bs : List ℕ) → none bs ≡ true → length bs ≡ 0
none_length [] h = refl
none_length (b ∷ bs) h = absurd (false≢true h)

module _ (E : Type 0) (z : ℤ) where
  abbrev Read : List ℕ → Type 0
  Read bs = ParsesSigned {E = E} w32 10 bs (Ok z)

  spells_plain : (bs : List ℕ) → Read bs → (get_or bs 0 0 ≡ 43 → ⊥) → (get_or bs 0 0 ≡ 45 → ⊥) → (get_or bs 0 0 ≡ 48 → length bs ≡ 1) → signed_decimal z ≡ bs
  spells_plain bs h plus minus lead =
      let g = parse_signed_plain own {E = E} w32 bs (Ok z) h plus minus in
      ap signed_decimal g.1 ∙ decimal-digits_value own bs g.0.0 g.0.1 lead (omega (arith, g.0.2))

  spells_minus : (ds : List ℕ) → Read (45 ∷ ds) → opens ds ≡ true → signed_decimal z ≡ 45 ∷ ds
  spells_minus [] h starts = absurd (false≢true starts)
  spells_minus (d ∷ ds) h starts =
      let g = parse_signed_minus own {E = E} w32 (45 ∷ d ∷ ds) (Ok z) h refl in
      let first = leb-true 49 d (and_parts _ _ starts).0 in
      ap signed_decimal g.1 ∙ neg_signed _ (d ∷ ds) (decimal-digits_value own (d ∷ ds) g.0.0 g.0.1 (λ e. absurd (omega arith)) (omega (arith, g.0.2))) (omega arith)

  spells : (bs : List ℕ) → Read bs → plain bs ≡ true → signed_decimal z ≡ bs
  spells [] h p = absurd (false≢true p)
  spells (b ∷ bs) h p = ⊎_elim lone (λ rest. ⊎_elim some negative (or_cases (nonzero b) _ rest)) (or_cases (eqb b 48 && none bs) _ p)
    where
      lone : eqb b 48 && none bs ≡ true → signed_decimal z ≡ b ∷ bs
      lone t =
          let q = and_parts _ _ t in
          let e = eqb-true b 48 q.0 in
          spells_plain (b ∷ bs) h (λ f. omega arith) (λ f. omega arith) (λ f. ap suc (none_length bs q.1))

      some : nonzero b ≡ true → signed_decimal z ≡ b ∷ bs
      some t =
          let k = leb-true 49 b (and_parts _ _ t).0 in
          spells_plain (b ∷ bs) h (λ f. omega arith) (λ f. omega arith) (λ f. absurd (omega arith))

      negative : eqb b 45 && opens bs ≡ true → signed_decimal z ≡ b ∷ bs
      negative t =
          let q = and_parts _ _ t in
          let e = eqb-true b 45 q.0 in
          subst (λ c. signed_decimal z ≡ c ∷ bs) (sym e) (spells_minus bs (subst (λ c. Read (c ∷ bs)) e h) q.1)

-- `integer` by what it means
reads_integer : (bs : List ℕ) → Reads bs (integer bs)
reads_integer bs = go (canonical bs) refl
  where
    go : (t : Bool) → canonical bs ≡ t → Reads bs (cond t (Some (signed_digits_value 10 bs)) None)
    go true e = let q = and_parts (bytes_eq (signed_decimal (signed_digits_value 10 bs)) bs) _ e in ((bytes_eq-Decides _ bs).0 q.0, record { sfits = ltb-true _ _ q.1 })
    go false e = λ z f is.
        let nay : IsNumeral 10 (without_leading_sign bs) × SFits w32 (signed_digits_value 10 bs) → ⊥ = λ p.
        let same : ◌≡◌ {A = Result ℤ ℕ} (Ok (signed_digits_value 10 bs)) (Ok z) = parse-signed_decimal w32 z bs (Ok (signed_digits_value 10 bs)) f (small z f) (sym is) (p, refl) in
        let vz : signed_digits_value 10 bs ≡ z = cc in
        both_ways (canonical bs) e (and_from _ _ ((bytes_eq-Decides _ bs).1 (ap signed_decimal vz ∙ is)) (lt-ltb _ _ p.1.sfits)) in
        let bad : ◌≡◌ {A = Result ℤ ℕ} (Err 0) (Ok z) = parse-signed_decimal w32 z bs (Err 0) f (small z f) (sym is) nay in
        let never : ◌≡◌ {A = ℕ} 0 1 = cc in
        omega arith

unique : (bs : List ℕ) (r s : Option ℤ) → Reads bs r → Reads bs s → r ≡ s
unique bs None None p q = refl
unique bs None (Some z) p q = absurd (p z q.1 q.0)
unique bs (Some z) None p q = absurd (q z p.1 p.0)
unique bs (Some y) (Some z) p q = ap Some (signed_decimal_injective y z (small y p.1) (small z q.1) (p.0 ∙ sym q.0))

pub is_integer : (bs : List ℕ) (r : Option ℤ) → Reads bs r → r ≡ integer bs
is_integer bs r p = unique bs r (integer bs) p (reads_integer bs)

pub from_integer : (bs : List ℕ) (r : Option ℤ) → integer bs ≡ r → Reads bs r
from_integer bs r e = subst (Reads bs) e (reads_integer bs)

pub integer_signed : (z : ℤ) → SFits w32 z → integer (signed_decimal z) ≡ Some z
integer_signed z f = sym (is_integer (signed_decimal z) (Some z) (refl, f))

-- what the program answers: at a failed test, and from `parse`
pub not_plain : (bs : List ℕ) → false ≡ plain bs → None ≡ integer bs
not_plain bs h = is_integer bs None (λ z f e. false≢true (h ∙ ap plain (sym e) ∙ plain_signed z (small z f)))

pub not_utf8 : (bs : List ℕ) → (IsUtf8 bs → ⊥) → None ≡ integer bs
not_utf8 bs h = is_integer bs None (λ z f e. h (subst IsUtf8 e (utf8_signed z (small z f))))

pub parsed : {E : Type 0} (bs : List ℕ) (r : Result ℤ E) → plain bs ≡ true → ParsesSigned w32 10 bs r → result_ok r ≡ integer bs
parsed {E} bs (Ok z) p h = is_integer bs (Some z) (spells E z bs h p, subst (SFits w32) (sym h.1) h.0.1)
parsed {E} bs (Err d) p h = is_integer bs None (λ z f e.
    let back = parse-signed_decimal w32 z bs (Err d) f (small z f) (sym e) h in
    let never : ◌≡◌ {A = ℕ} 0 1 = cc in
    omega arith)

pub exact : Exact
exact = record { spelled = integer_signed; reads = reads_integer }
