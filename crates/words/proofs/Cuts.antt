-- A text cut at its first separator: the part that is handed out, and those that are left.
use Rattle.std.proofs.Common.{◌≡◌, ℕ, ◌+◌, ◌<◌, Bool, true, false, cond, ltb, eqb, List, [], ◌∷◌, length, take, drop, Some, None, Option, arith, refl, sym, ap, ◌∙◌, subst, length-take-le}
use Rattle.std.specs.List.{position, position_or_len}
use Rattle.std.specs.Iterator.{MakesProgress, item_count}
use Rattle.std.proofs.lemmas.List.Quantifiers.{position-Some}
use Rattle.std.proofs.lemmas.List.Sums.{position_or_len_is, fails_before_first}
use Rattle.std.proofs.lemmas.List.Splits.{slice_split_first, slice_split_none}
use Rattle.std.proofs.lemmas.Option.{none-some}
use Rattle.std.proofs.lemmas.Bool.{ltb-false}
use Rattle.words.specs.declared.part.Part.{Part}
use Rattle.words.specs.declared.part.Parts.{Parts}
use Rattle.words.specs.Split.{split, placed}
use Rattle.words.specs.Cursor.{told, todo}

module _ (sep byte : ℕ) (text : List ℕ) where
  -- the first place of the separator
  abbrev pub found : Option ℕ
  found = position (λ b. eqb b sep) text

  -- the part before it, where what follows it is left
  pub hands_first : (n : ℕ) → found ≡ Some n → (rest : List ℕ) → rest ≡ drop (n + 1) text → placed byte (split sep text) ≡ record { byte = byte; text = take n text } ∷ placed (byte + n + 1) (split sep rest)
  hands_first n e rest is =
      let at = position-Some (λ b. eqb b sep) text n 0 e in
      let first = position_or_len_is (λ b. eqb b sep) text n 0 (omega (arith, at.0)) at.2 (λ _. at.1) in
      let cut : split sep text ≡ take n text ∷ split sep (drop (n + 1) text) = subst (λ k. split sep text ≡ take k text ∷ split sep (drop (k + 1) text)) first (slice_split_first (λ b. eqb b sep) text 0 (omega (arith, at.0, first))) in
      let long : byte + length (take n text) + 1 ≡ byte + n + 1 = omega (arith, length-take-le n text (omega (arith, at.0))) in
      ap (placed byte) cut ∙ (λ i. record { byte = byte; text = take n text } ∷ placed (long i) (split sep (sym is i)))

  -- the whole text, where there is none
  pub hands_last : found ≡ None → placed byte (split sep text) ≡ record { byte = byte; text = text } ∷ []
  hands_last e = ap (placed byte) (slice_split_none (λ b. eqb b sep) text (λ k d lt. fails_before_first (λ b. eqb b sep) text k d (before k lt (ltb (position_or_len (λ b. eqb b sep) text) (length text)) refl e)))
    where
      before : (k : ℕ) → k < length text → (t : Bool) → ltb (position_or_len (λ b. eqb b sep) text) (length text) ≡ t → cond t (Some (position_or_len (λ b. eqb b sep) text)) None ≡ None → k < position_or_len (λ b. eqb b sep) text
      before k lt true e h = absurd (none-some _ (sym h))
      before k lt false e h = omega (arith, ltb-false _ _ e)

-- a part handed out leaves one part less
pub goes_on : (s t : Parts) (p : Part) → todo s ≡ told p ∷ todo t → MakesProgress (λ _. Unit {0}) (item_count todo) s (Some p) t
goes_on s t p e = record { on = λ _. (tt, tt, omega (arith, ap length e)); keeps = tt; rests = λ _. tt }
