-- The credentials that are still to come, from a place on.
use Rattle.std.proofs.Common.{◌≡◌, ℕ, zero, suc, ◌+◌, ◌<◌, List, [], ◌∷◌, length, drop, Some, None, refl, arith, add-one}
use Rattle.credential.specs.Same.{Credential}
use Rattle.source.specs.Shows.{Shown, stated, credential_at}

pub rest_past : (xs : List Shown) (i : ℕ) → None ≡ credential_at xs i → drop i (stated xs) ≡ []
rest_past [] zero e = refl
rest_past [] (suc i) e = refl
rest_past (s ∷ xs) zero e = cc
rest_past (s ∷ xs) (suc i) e = rest_past xs i e

rest_next : (xs : List Shown) (i : ℕ) (c : Credential) → Some c ≡ credential_at xs i → drop i (stated xs) ≡ c ∷ drop (suc i) (stated xs)
rest_next [] i c e = cc
rest_next (s ∷ xs) zero c e = cc
rest_next (s ∷ xs) (suc i) c e = rest_next xs i c e

pub rest_here : (xs : List Shown) (i : ℕ) (c : Credential) → Some c ≡ credential_at xs i → drop i (stated xs) ≡ c ∷ drop (i + 1) (stated xs)
rest_here xs i c e = rw add-one (rest_next xs i c e)

pub shown_within : (xs : List Shown) (i : ℕ) (c : Credential) → Some c ≡ credential_at xs i → i < length xs
shown_within [] i c e = cc
shown_within (s ∷ xs) zero c e = omega arith
shown_within (s ∷ xs) (suc i) c e = omega (arith, shown_within xs i c e)

pub ruleset rests = (rest_past, rest_here, shown_within)
