-- What stands at a place of a list that is made of others.
use Rattle.std.proofs.Common.{◌≡◌, ℕ, zero, suc, ◌+◌, ◌-◌, ◌<◌, ◌≤◌, List, [], ◌∷◌, ◌++◌, length, take, Some, None, sym, refl, ap, ◌∙◌, append_assoc, arith, length-append, length-take, min}
use Rattle.std.specs.List.{slice_get}
use Rattle.std.specs.Option.{option_map}
use Rattle.std.proofs.lemmas.List.{take-take}
use Rattle.std.proofs.lemmas.Option.{slice_get_past}
use Rattle.credential.specs.Same.{Credential}
use Rattle.source.specs.Shows.{Shown, layer_from, layer, joined, JoinsAssociate}

module _ {X : Type 0} where
  nth_append_left : (xs ys : List X) (i : ℕ) → i < length xs → slice_get (xs ++ ys) i ≡ slice_get xs i
  nth_append_left [] ys i h = absurd (omega arith)
  nth_append_left (x ∷ xs) ys zero h = refl
  nth_append_left (x ∷ xs) ys (suc i) h = nth_append_left xs ys i (omega arith)

  nth_append_right : (xs ys : List X) (i : ℕ) → length xs ≤ i → slice_get (xs ++ ys) i ≡ slice_get ys (i - length xs)
  nth_append_right [] ys i h = ap (slice_get ys) (omega arith)
  nth_append_right (x ∷ xs) ys zero h = absurd (omega arith)
  nth_append_right (x ∷ xs) ys (suc i) h = nth_append_right xs ys i (omega arith) ∙ ap (slice_get ys) (omega arith)

  nth_take : (n : ℕ) (xs : List X) (i : ℕ) → i < n → slice_get (take n xs) i ≡ slice_get xs i
  nth_take zero xs i h = absurd (omega arith)
  nth_take (suc n) [] i h = refl
  nth_take (suc n) (x ∷ xs) zero h = refl
  nth_take (suc n) (x ∷ xs) (suc i) h = nth_take n xs i (omega arith)

  -- a cut list may be cut before it is joined
  cut_front : (n : ℕ) (xs ys : List X) → take n (take n xs ++ ys) ≡ take n (xs ++ ys)
  cut_front zero xs ys = refl
  cut_front (suc n) [] ys = refl
  cut_front (suc n) (x ∷ xs) ys = ap (λ l. x ∷ l) (cut_front n xs ys)

  cut_back : (n m : ℕ) (xs ys : List X) → n ≤ m → take n (xs ++ take m ys) ≡ take n (xs ++ ys)
  cut_back n m [] ys h = take-take n m ys h
  cut_back zero m (x ∷ xs) ys h = refl
  cut_back (suc n) m (x ∷ xs) ys h = ap (λ l. x ∷ l) (cut_back n m xs ys (omega arith))

  pub cuts_associate : (n : ℕ) (xs ys zs : List X) → take n (take n (xs ++ ys) ++ zs) ≡ take n (xs ++ take n (ys ++ zs))
  cuts_associate n xs ys zs = cut_front n (xs ++ ys) zs ∙ ap (take n) (append_assoc xs ys zs) ∙ sym (cut_back n n xs (ys ++ zs) (omega arith))

pub joins_associate : JoinsAssociate
joins_associate xs ys zs = cuts_associate 65535 xs ys zs

pub length_joined : (xs ys : List Shown) → length (joined xs ys) ≡ min (length xs + length ys) 65535
length_joined xs ys = simp (length-take, length-append) (omega arith)

-- what a join shows at a place
module _ (xs ys : List Shown) (i : ℕ) where
  pub join_past : 65535 ≤ i → slice_get (joined xs ys) i ≡ None
  join_past h = slice_get_past (joined xs ys) i (rw length-take (omega arith))

  pub join_first : i < 65535 → i < length xs → slice_get (joined xs ys) i ≡ slice_get xs i
  join_first h k = nth_take 65535 (xs ++ ys) i h ∙ nth_append_left xs ys i k

  pub join_second : i < 65535 → length xs ≤ i → slice_get (joined xs ys) i ≡ slice_get ys (i - length xs)
  join_second h k = nth_take 65535 (xs ++ ys) i h ∙ nth_append_right xs ys i k

-- what a layer shows of a credential
abbrev shown_as : ℕ → ℕ → Credential → Shown
shown_as l n c = record { credential = c; origin = record { layer = l; place = n } }

layer_from_shows : (l n : ℕ) (cs : List Credential) (i : ℕ) → slice_get (layer_from l n cs) i ≡ option_map (shown_as l (n + i)) (slice_get cs i)
layer_from_shows l n [] i = refl
layer_from_shows l n (c ∷ cs) zero = ap (λ m. Some (shown_as l m c)) (omega arith)
layer_from_shows l n (c ∷ cs) (suc i) = layer_from_shows l (suc n) cs i ∙ ap (λ m. option_map (shown_as l m) (slice_get cs i)) (omega arith)

pub layer_shows : (l : ℕ) (cs : List Credential) (i : ℕ) → slice_get (layer l cs) i ≡ option_map (shown_as l i) (slice_get cs i)
layer_shows l cs i = layer_from_shows l 0 cs i ∙ ap (λ m. option_map (shown_as l m) (slice_get cs i)) (omega arith)

pub ruleset join_shows = (join_first, join_second)
