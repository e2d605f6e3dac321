-- A word is at most one verb.
use Rattle.std.proofs.Common.{◌≡◌, ℕ, Bool, true, false, cond, List, Some, None, codes, Option, sym, refl, ap, ◌∙◌, arith}
use Rattle.std.specs.Str.{bytes_eq}
use Rattle.std.proofs.lemmas.Slice.Eq.{bytes_eq-Decides}
use Rattle.reader.specs.declared.tokens.Verb.{Verb}
use Rattle.reader.specs.declared.tokens.Verb.TheVariants.{Enrol, Add, Withdraw, Present}
use Rattle.reader.specs.Verbs.{verb_of}

abbrev pub verb_text : Verb → List ℕ
verb_text Enrol = codes "enrol"
verb_text Add = codes "add"
verb_text Withdraw = codes "withdraw"
verb_text Present = codes "present"

pub verb_back : (l : List ℕ) (v : Verb) → verb_of l ≡ Some v → l ≡ verb_text v
verb_back l v e = go (is Enrol) (is Add) (is Withdraw) (is Present) refl refl refl refl e
  where
    is : Verb → Bool
    is u = bytes_eq l (verb_text u)

    found : (u : Verb) → bytes_eq l (verb_text u) ≡ true → Some u ≡ Some v → l ≡ verb_text v
    found u p e = let same : u ≡ v = cc in (bytes_eq-Decides l (verb_text u)).0 p ∙ ap verb_text same

    go : (a b c d : Bool) → bytes_eq l (verb_text Enrol) ≡ a → bytes_eq l (verb_text Add) ≡ b → bytes_eq l (verb_text Withdraw) ≡ c → bytes_eq l (verb_text Present) ≡ d → cond a (Some Enrol) (cond b (Some Add) (cond c (Some Withdraw) (cond d (Some Present) None))) ≡ Some v → l ≡ verb_text v
    go true b c d p q r s e = found Enrol p e
    go false true c d p q r s e = found Add q e
    go false false true d p q r s e = found Withdraw r e
    go false false false true p q r s e = found Present s e
    go false false false false p q r s e = absurd (let z : ◌≡◌ {A = ℕ} 0 1 = cc in omega arith)

text_verb : (u : Verb) → verb_of (verb_text u) ≡ Some u
text_verb Enrol = refl
text_verb Add = refl
text_verb Withdraw = refl
text_verb Present = refl

-- a word that is this verb is tested as u is
abbrev pub is_verb : Verb → Option Verb → Bool
is_verb u None = false
is_verb u (Some v) = bytes_eq (verb_text v) (verb_text u)

pub verb_test : (l : List ℕ) (u : Verb) → bytes_eq l (verb_text u) ≡ is_verb u (verb_of l)
verb_test l u = go (verb_of l) refl
  where
    never : (b : Bool) → bytes_eq l (verb_text u) ≡ b → verb_of l ≡ None → b ≡ false
    never false p e = refl
    never true p e =
        let clash = sym e ∙ ap verb_of ((bytes_eq-Decides l (verb_text u)).0 p) ∙ text_verb u in
        absurd (let z : ◌≡◌ {A = ℕ} 0 1 = cc in omega arith)

    go : (o : Option Verb) → verb_of l ≡ o → bytes_eq l (verb_text u) ≡ is_verb u o
    go None e = never (bytes_eq l (verb_text u)) refl e
    go (Some v) e = ap (λ k. bytes_eq k (verb_text u)) (verb_back l v e)
