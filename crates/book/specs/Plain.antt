-- The plain book: what enrol, add and withdraw answer and change, told of lists alone. It is fed
-- the calls' arguments, starts with nothing, and a refused call changes nothing.
use Rattle.std.specs.Prelude.{ℕ, suc, Bool, true, cond, not, ◌&&◌, List, [], ◌∷◌, ◌++◌, length, pos, negsuc, Some, None, Option, int_le, nat_le, nat_lt}
use Rattle.std.specs.List.{remove}
use Rattle.std.specs.Str.{bytes_eq}
use Rattle.credential.specs.declared.Role.{Role}
use Rattle.credential.specs.declared.Record.{Record}
use Rattle.credential.specs.declared.Body.{Body}
use Rattle.credential.specs.declared.Body.TheVariants.{Member, Delegation, Link, Intersection}
use Rattle.credential.specs.declared.Claim.{Claim}
use Rattle.credential.specs.Same.{Credential, Statement, statement_of, says}
use Rattle.book.specs.declared.refusal.Kind.{Kind}
use Rattle.book.specs.declared.refusal.Kind.TheVariants.{Entity, RoleName}
use Rattle.book.specs.Names.{kind_of}

pub record Plain : Type 0 where
  pub entities : List (List ℕ)
  pub role_names : List (List ℕ)
  pub credentials : List Credential

abbrev pub nothing : Plain
nothing = record { entities = []; role_names = []; credentials = [] }

-- a call, by its arguments
pub data Call : Type 0 where
  enrol : List ℕ → Call
  add : Credential → Call
  withdraw : Statement → Call

-- what a call answers: the number of a name among those of its kind, the place of a credential,
-- or a refusal by its number
pub data Answer : Type 0 where
  numbered : Kind → ℕ → Answer
  at_place : ℕ → Answer
  refused : ℕ → Answer

-- the place of the first that passes, or the length where none does
abbrev pub first : {X : Type 0} → (X → Bool) → List X → ℕ
first p [] = 0
first p (x ∷ xs) = cond (p x) 0 (suc (first p xs))

-- one of them passes
abbrev pub among : {X : Type 0} → (X → Bool) → List X → Bool
among p xs = nat_lt (first p xs) (length xs)

-- the place of the first that passes, where one does
abbrev pub place : {X : Type 0} → (X → Bool) → List X → Option ℕ
place p xs = cond (among p xs) (Some (first p xs)) None

-- the names of a kind, and how many there may be
abbrev pub names : Kind → Plain → List (List ℕ)
names Entity p = p.entities
names RoleName p = p.role_names

abbrev pub most : Kind → ℕ
most Entity = 64
most RoleName = 32

abbrev pub with_name : Kind → List ℕ → Plain → Plain
with_name Entity w p = record { entities = p.entities ++ w ∷ []; role_names = p.role_names; credentials = p.credentials }
with_name RoleName w p = record { entities = p.entities; role_names = p.role_names ++ w ∷ []; credentials = p.credentials }

abbrev pub with_credentials : List Credential → Plain → Plain
with_credentials cs p = record { entities = p.entities; role_names = p.role_names; credentials = cs }

-- a malformed name, one already enrolled, a full register of its kind
abbrev pub enrol_answer : Plain → List ℕ → Option Kind → Answer
enrol_answer p w None = refused 1
enrol_answer p w (Some k) =
    cond (among (bytes_eq w) (names k p)) (refused 2)
    (cond (nat_le (most k) (length (names k p))) (refused 3)
    (numbered k (length (names k p))))

-- the numbers of a role, a body and a claim are those of enrolled names, of which there are E
-- entities and R role names
abbrev pub role_enrolled : ℕ → ℕ → Role → Bool
role_enrolled E R r = nat_lt r.entity.0 E && nat_lt r.name.0 R

abbrev pub body_enrolled : {W : Type 0} → ℕ → ℕ → Body W → Bool
body_enrolled E R (Member x w) = nat_lt x.0 E
body_enrolled E R (Delegation b) = role_enrolled E R b
body_enrolled E R (Link b t) = role_enrolled E R b && nat_lt t.0 R
body_enrolled E R (Intersection b c) = role_enrolled E R b && role_enrolled E R c

abbrev pub claim_enrolled : {W : Type 0} → ℕ → ℕ → Claim W → Bool
claim_enrolled E R c = role_enrolled E R c.head && body_enrolled E R c.body

abbrev pub enrolled : {W : Type 0} → Plain → Claim W → Bool
enrolled p c = claim_enrolled (length p.entities) (length p.role_names) c

-- a ceiling of -1 or more, a distance from 0 to 1,000,000; only a membership has a record
abbrev pub record_in_range : Record → Bool
record_in_range w = int_le (negsuc 0) w.ceiling && (int_le (pos 0) w.distance && int_le w.distance (pos 1000000))

abbrev pub in_range : Body Record → Bool
in_range (Member x w) = record_in_range w
in_range (Delegation b) = true
in_range (Link b t) = true
in_range (Intersection b c) = true

-- a number not enrolled, a weight out of range, a statement already in force, a full book
abbrev pub add_answer : Plain → Credential → Answer
add_answer p c =
    cond (not (enrolled p c)) (refused 4)
    (cond (not (in_range c.body)) (refused 5)
    (cond (among (says (statement_of c)) p.credentials) (refused 6)
    (cond (nat_le 256 (length p.credentials)) (refused 7)
    (at_place (length p.credentials)))))

-- a number not enrolled, a statement not in force
abbrev pub withdraw_answer : Plain → Statement → Answer
withdraw_answer p s =
    cond (not (enrolled p s)) (refused 4)
    (cond (not (among (says s) p.credentials)) (refused 8)
    (at_place (first (says s) p.credentials)))

abbrev pub answer : Plain → Call → Answer
answer p (enrol w) = enrol_answer p w (kind_of w)
answer p (add c) = add_answer p c
answer p (withdraw s) = withdraw_answer p s

-- what a call does where it is not refused
abbrev pub put_name : Option Kind → List ℕ → Plain → Plain
put_name None w p = p
put_name (Some k) w p = with_name k w p

abbrev pub effect : Plain → Call → Plain
effect p (enrol w) = put_name (kind_of w) w p
effect p (add c) = with_credentials (p.credentials ++ c ∷ []) p
effect p (withdraw s) = with_credentials (remove p.credentials (first (says s) p.credentials)) p

abbrev pub unless_refused : Answer → Plain → Plain → Plain
unless_refused (numbered k n) before after = after
unless_refused (at_place n) before after = after
unless_refused (refused n) before after = before

abbrev pub next : Plain → Call → Plain
next p c = unless_refused (answer p c) p (effect p c)

-- the plain book after these calls, the newest first
abbrev pub fed : List Call → Plain
fed [] = nothing
fed (c ∷ past) = next (fed past) c
