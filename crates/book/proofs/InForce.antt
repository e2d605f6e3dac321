-- Every credential in force has enrolled numbers.
use Rattle.std.proofs.Common.{◌≡◌, ℕ, suc, ◌≤◌, true, not, List, [], ◌∷◌, ◌++◌, length, take, drop, Some, None, Option, arith}
use Rattle.std.specs.List.{All, AllByRecursion, remove}
use Rattle.std.proofs.lemmas.List.{length-append}
use Rattle.std.proofs.lemmas.List.Elements.{All-append, All-drop, All-from_recursion, All-push, All-take, All-weaker, recursion_from_All}
use Rattle.std.proofs.lemmas.Bool.Decides.{nat_tests}
use Rattle.std.proofs.lemmas.Bool.{cond_both, not-false}
use Rattle.credential.specs.declared.Role.{Role}
use Rattle.credential.specs.declared.Record.{Record}
use Rattle.credential.specs.declared.Body.{Body}
use Rattle.credential.specs.declared.Body.TheVariants.{Member, Delegation, Link, Intersection}
use Rattle.credential.specs.Same.{Credential, says}
use Rattle.book.specs.declared.refusal.Kind.{Kind}
use Rattle.book.specs.declared.refusal.Kind.TheVariants.{Entity, RoleName}
use Rattle.book.proofs.Steps.{after_call}
use Rattle.book.specs.Names.{kind_of}
use Rattle.book.specs.Plain.{Plain, Call, enrol, add, withdraw, first, with_name, with_credentials, role_enrolled, body_enrolled, claim_enrolled, enrolled, put_name, unless_refused, next}

-- c, and all of cs, have numbers below E and R
abbrev pub Below : ℕ → ℕ → Credential → Type 0
Below E R c = claim_enrolled E R c ≡ true

abbrev pub AllBelow : ℕ → ℕ → List Credential → Type 0
AllBelow E R cs = AllByRecursion (Below E R) cs

abbrev pub AllEnrolled : Plain → Type 0
AllEnrolled p = AllBelow (length p.entities) (length p.role_names) p.credentials

module _ (E R E' R' : ℕ) (more_entities : E ≤ E') (more_names : R ≤ R') where
  role_below : (r : Role) → role_enrolled E R r ≡ true → role_enrolled E' R' r ≡ true
  role_below r h = grind (arith, nat_tests)

  body_below : (b : Body Record) → body_enrolled E R b ≡ true → body_enrolled E' R' b ≡ true
  body_below (Member x w) h = grind (arith, nat_tests)
  body_below (Delegation b) h = role_below b h
  body_below (Link b t) h = grind (arith, nat_tests, role_below b)
  body_below (Intersection b c) h = grind (arith, nat_tests, role_below b, role_below c)

  claim_below : (c : Credential) → Below E R c → Below E' R' c
  claim_below c h = grind (arith, nat_tests, role_below c.head, body_below c.body)

  -- names are only ever added
  all_below : (cs : List Credential) → AllBelow E R cs → AllBelow E' R' cs
  all_below cs h = recursion_from_All (Below E' R') cs (All-weaker (Below E R) (Below E' R') claim_below cs (All-from_recursion (Below E R) cs h))

module _ (E R : ℕ) (cs : List Credential) (h : AllBelow E R cs) where
  all : All (Below E R) cs
  all = All-from_recursion (Below E R) cs h

  all_push : (c : Credential) → Below E R c → AllBelow E R (cs ++ c ∷ [])
  all_push c k = recursion_from_All (Below E R) _ (All-push (Below E R) cs c all k)

  all_removed : (i : ℕ) → AllBelow E R (remove cs i)
  all_removed i = recursion_from_All (Below E R) _ (All-append (Below E R) (take i cs) (drop (suc i) cs) (All-take (Below E R) i cs all) (All-drop (Below E R) (suc i) cs all))

with_enrolled : (p : Plain) (k : Kind) (w : List ℕ) → AllEnrolled p → AllEnrolled (with_name k w p)
with_enrolled p Entity w h = all_below (length p.entities) (length p.role_names) (length (p.entities ++ w ∷ [])) (length p.role_names) (omega (arith, length-append p.entities (w ∷ []))) (omega arith) p.credentials h
with_enrolled p RoleName w h = all_below (length p.entities) (length p.role_names) (length p.entities) (length (p.role_names ++ w ∷ [])) (omega arith) (omega (arith, length-append p.role_names (w ∷ []))) p.credentials h

put_enrolled : (p : Plain) (o : Option Kind) (w : List ℕ) → AllEnrolled p → AllEnrolled (put_name o w p)
put_enrolled p None w h = h
put_enrolled p (Some k) w h = with_enrolled p k w h

pub next_enrolled : (p : Plain) (c : Call) → AllEnrolled p → AllEnrolled (next p c)
next_enrolled p (enrol w) h = after_call AllEnrolled _ p _ h (put_enrolled p (kind_of w) w h)
next_enrolled p (add c) h =
    let pushed = with_credentials (p.credentials ++ c ∷ []) p in
    cond_both (not (enrolled p c)) _ _ (λ a. AllEnrolled (unless_refused a p pushed)) (λ e. h) (λ e. after_call AllEnrolled _ p pushed h (all_push _ _ p.credentials h c (not-false _ e)))
next_enrolled p (withdraw s) h = after_call AllEnrolled _ p _ h (all_removed _ _ p.credentials h (first (says s) p.credentials))
