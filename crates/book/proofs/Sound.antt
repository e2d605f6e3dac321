-- The names of a plain book are names of their kind, and each is found at its own number.
use Rattle.std.proofs.Common.{◌≡◌, ℕ, ◌<◌, Bool, true, false, cond, List, [], ◌∷◌, ◌++◌, length, get_or, Some, None, Option, refl, ap, ◌∙◌, ⊎_elim, arith}
use Rattle.std.specs.Str.{bytes_eq}
use Rattle.std.proofs.lemmas.Slice.Eq.{bytes_eq-Decides}
use Rattle.std.proofs.lemmas.List.{length-append, get_or_append_left, get_or_push}
use Rattle.std.proofs.lemmas.Bool.{cond_both, ltb-false, cases_lt}
use Rattle.std.proofs.lemmas.Grind.{common_steps}
use Rattle.credential.specs.Same.{Credential}
use Rattle.book.specs.declared.refusal.Kind.{Kind}
use Rattle.book.specs.declared.refusal.Kind.TheVariants.{Entity, RoleName}
use Rattle.book.specs.Names.{entity, role_name, kind_of}
use Rattle.book.proofs.Steps.{after_call}
use Rattle.book.proofs.Firsts.{first_push, first_most}
use Rattle.book.specs.Plain.{Plain, Call, enrol, add, withdraw, first, among, names, with_name, with_credentials, enrol_answer, put_name, unless_refused, next, fed}

pub record SoundNames (is : List ℕ → Bool) (ws : List (List ℕ)) : Type 0 where
  pub each : (n : ℕ) → n < length ws → is (get_or ws n []) ≡ true
  pub own : (n : ℕ) → n < length ws → first (bytes_eq (get_or ws n [])) ws ≡ n

module _ (is : List ℕ → Bool) (ws : List (List ℕ)) (w : List ℕ) (named : is w ≡ true) (new : among (bytes_eq w) ws ≡ false) (h : SoundNames is ws) where
  kept : (n : ℕ) → n < length ws → get_or (ws ++ w ∷ []) n [] ≡ get_or ws n []
  kept n lt = get_or_append_left ws (w ∷ []) [] n lt

  last : (n : ℕ) → length ws ≡ n → get_or (ws ++ w ∷ []) n [] ≡ w
  last n e = get_or_push ws w [] n e

  found_kept : (n : ℕ) → n < length ws → first (bytes_eq (get_or ws n [])) (ws ++ w ∷ []) ≡ n
  found_kept n lt = grind (arith, common_steps, first_push (bytes_eq (get_or ws n [])) ws w, h.own n lt)

  found_last : (n : ℕ) → length ws ≡ n → first (bytes_eq w) (ws ++ w ∷ []) ≡ n
  found_last n e = grind (arith, common_steps, first_push (bytes_eq w) ws w, first_most (bytes_eq w) ws, ltb-false _ _ new, (bytes_eq-Decides w w).1 refl)

  push : SoundNames is (ws ++ w ∷ [])
  push = record {
    each = λ n lt. ⊎_elim (λ a. ap is (kept n a) ∙ h.each n a) (λ b. ap is (last n (omega (arith, length-append ws (w ∷ [])))) ∙ named) (cases_lt n (length ws));
    own = λ n lt.
        ⊎_elim (λ a. rw (kept n a) (found_kept n a)) (λ b. let e : length ws ≡ n = omega (arith, length-append ws (w ∷ [])) in rw (last n e) (found_last n e)) (cases_lt n (length ws));
  }

pub record Sound (p : Plain) : Type 0 where
  pub entities : SoundNames entity p.entities
  pub role_names : SoundNames role_name p.role_names

-- the test that a name of this kind passes
abbrev pub is_kind : Kind → List ℕ → Bool
is_kind Entity w = entity w
is_kind RoleName w = role_name w

kind_is : (w : List ℕ) (k : Kind) → kind_of w ≡ Some k → is_kind k w ≡ true
kind_is w k e = go (entity w) (role_name w) k refl refl e
  where
    go : (a b : Bool) (k : Kind) → entity w ≡ a → role_name w ≡ b → cond a (Some Entity) (cond b (Some RoleName) None) ≡ Some k → is_kind k w ≡ true
    go true b Entity p q e = p
    go true b RoleName p q e = cc
    go false true Entity p q e = cc
    go false true RoleName p q e = q
    go false false k p q e = cc

with_sound : (p : Plain) (k : Kind) (w : List ℕ) → is_kind k w ≡ true → among (bytes_eq w) (names k p) ≡ false → Sound p → Sound (with_name k w p)
with_sound p Entity w is new h = record { entities = push entity p.entities w is new h.entities; role_names = h.role_names }
with_sound p RoleName w is new h = record { entities = h.entities; role_names = push role_name p.role_names w is new h.role_names }

put_sound : (p : Plain) (w : List ℕ) (o : Option Kind) → kind_of w ≡ o → Sound p → Sound (unless_refused (enrol_answer p w o) p (put_name o w p))
put_sound p w None e h = h
put_sound p w (Some k) e h =
    let put = with_name k w p in
    cond_both (among (bytes_eq w) (names k p)) _ _ (λ a. Sound (unless_refused a p put)) (λ there. h) (λ new. after_call Sound _ p put h (with_sound p k w (kind_is w k e) new h))

-- a change of the credentials leaves the names
names_kept : (p : Plain) (cs : List Credential) → Sound p → Sound (with_credentials cs p)
names_kept p cs h = record { entities = h.entities; role_names = h.role_names }

next_sound : (p : Plain) (c : Call) → Sound p → Sound (next p c)
next_sound p (enrol w) h = put_sound p w (kind_of w) refl h
next_sound p (add c) h = after_call Sound _ p _ h (names_kept p _ h)
next_sound p (withdraw s) h = after_call Sound _ p _ h (names_kept p _ h)

none_sound : (is : List ℕ → Bool) → SoundNames is []
none_sound is = record { each = λ n h. absurd (omega arith); own = λ n h. absurd (omega arith) }

pub fed_sound : (past : List Call) → Sound (fed past)
fed_sound [] = record { entities = none_sound entity; role_names = none_sound role_name }
fed_sound (c ∷ past) = next_sound (fed past) c (fed_sound past)
