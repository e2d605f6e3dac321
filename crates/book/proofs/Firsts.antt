-- The first that passes, by the library's words.
use Rattle.std.proofs.Common.{◌≡◌, suc, ◌+◌, ◌≤◌, Bool, cond, eqb, ltb, List, [], ◌∷◌, ◌++◌, length, Some, None, position, sym, refl, ap, arith}
use Rattle.std.specs.List.{position_or_len}
use Rattle.std.proofs.lemmas.List.Folds.{position_or_len_push}
use Rattle.std.proofs.lemmas.List.Recursion.{is_position_or_len}
use Rattle.std.proofs.lemmas.Bool.{cond_both}
use Rattle.book.specs.Plain.{first, place}

module _ {X : Type 0} (p : X → Bool) where
  first_is : (xs : List X) → first p xs ≡ position_or_len p xs
  first_is = is_position_or_len (first p) p refl (λ x xs. let e : suc (first p xs) ≡ 1 + first p xs = omega arith in ap (cond (p x) 0) e)

  pub place_is : (xs : List X) → position p xs ≡ place p xs
  place_is xs = ap (λ n. cond (ltb n (length xs)) (Some n) None) (sym (first_is xs))

  pub first_push : (xs : List X) (y : X) → first p (xs ++ y ∷ []) ≡ cond (eqb (first p xs) (length xs)) (length xs + cond (p y) 0 1) (first p xs)
  first_push xs y = rw (first_is xs, first_is (xs ++ y ∷ [])) (position_or_len_push p xs y)

  pub first_most : (xs : List X) → first p xs ≤ length xs
  first_most [] = omega arith
  first_most (x ∷ xs) = cond_both (p x) 0 (suc (first p xs)) (λ n. n ≤ suc (length xs)) (λ e. omega arith) (λ e. omega (arith, first_most xs))
