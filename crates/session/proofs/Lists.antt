-- The statements in force, all of them enrolled.
use Rattle.std.proofs.Common.{◌≡◌, ℕ, ◌+◌, ◌<◌, Bool, true, false, List, [], ◌∷◌, ◌++◌, length, get_or, drop, Some, None, Option, IsSome, Ok, Err, Result, refl, sym, ap, ◌∙◌, append_assoc}
use Rattle.std.specs.Bool.{then_some}
use Rattle.std.specs.Option.{option_map}
use Rattle.std.proofs.lemmas.List.{at_drop_more}
use Rattle.std.proofs.lemmas.List.Folds.{list_all_at}
use Rattle.std.specs.List.{list_all}
use Rattle.std.proofs.lemmas.Bool.{and_parts, and_from}
use Rattle.credential.specs.Same.{Credential}
use Rattle.book.specs.Plain.{Plain, claim_enrolled, enrolled}
use Rattle.book.proofs.InForce.{AllBelow, next_enrolled}
use Rattle.reader.specs.Calls.{Act, calls, presents, Fault, State, next_by}
use Rattle.writer.specs.Written.{text}
use Rattle.session.specs.Roster.{listing}
use Rattle.session.specs.Listed.{all_enrolled}

all_below : (E R : ℕ) (cs : List Credential) → list_all (claim_enrolled E R) cs ≡ true → AllBelow E R cs
all_below E R [] h = tt
all_below E R (c ∷ cs) h = let k = and_parts _ _ h in (k.0, all_below E R cs k.1)

below_all : (E R : ℕ) (cs : List Credential) → AllBelow E R cs → list_all (claim_enrolled E R) cs ≡ true
below_all E R [] h = refl
below_all E R (c ∷ cs) h = and_from _ _ h.0 (below_all E R cs h.1)

-- every line leaves all credentials enrolled
pub still_enrolled : (s : State) (r : Result Act Fault) → all_enrolled s.book ≡ true → all_enrolled (next_by s r).book ≡ true
still_enrolled s (Ok (calls call)) h = below_all _ _ _ (next_enrolled s.book call (all_below (length s.book.entities) (length s.book.role_names) s.book.credentials h))
still_enrolled s (Ok (presents c)) h = h
still_enrolled s (Err f) h = h

pub enrolled_at : (p : Plain) (cs : List Credential) (i : ℕ) (d : Credential) → cs ≡ p.credentials → all_enrolled p ≡ true → i < length cs → enrolled p (get_or cs i d) ≡ true
enrolled_at p cs i d is h lt = go (enrolled p (get_or cs i d)) refl
  where
    go : (b : Bool) → enrolled p (get_or cs i d) ≡ b → b ≡ true
    go true e = refl
    go false e = sym (list_all_at (enrolled p) cs i d lt e) ∙ ap (list_all (enrolled p)) is ∙ h

-- what is told of an enrolled credential
module _ {X : Type 0} (f : X → List ℕ) (r : Option X) (e : Bool) (t : List ℕ) (told : option_map f r ≡ then_some e t) where
  pub is_told : e ≡ true → IsSome r
  is_told known = go r (told ∙ ap (λ b. then_some b t) known)
    where
      go : (r : Option X) → option_map f r ≡ then_some true t → IsSome r
      go None h = absurd (let z : ◌≡◌ {A = Option (List ℕ)} None (Some t) = h in cc)
      go (Some v) h = refl

  pub told_text : e ≡ true → (v : X) → r ≡ Some v → f v ≡ t
  told_text known v is = let h : ◌≡◌ {A = Option (List ℕ)} (Some (f v)) (Some t) = sym (ap (option_map f) is) ∙ told ∙ ap (λ b. then_some b t) known in cc

pub one_more : (p : Plain) (cs : List Credential) (i : ℕ) (d : Credential) → i < length cs → (out new word : List ℕ) → new ≡ out ++ (word ++ 10 ∷ []) → word ≡ text p (get_or cs i d) → new ++ listing p (drop (i + 1) cs) ≡ out ++ listing p (drop i cs)
one_more p cs i d lt out new word put is =
    let rest = listing p (drop (i + 1) cs) in
    ap (λ l. l ++ rest) put ∙ append_assoc out (word ++ 10 ∷ []) rest ∙ ap (λ l. out ++ l) (append_assoc word (10 ∷ []) rest)
    ∙ ap (λ l. out ++ (l ++ 10 ∷ rest)) is ∙ ap (λ l. out ++ l) (sym (at_drop_more (listing p) cs i d lt))
