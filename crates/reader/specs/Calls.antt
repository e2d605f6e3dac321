-- What a line asks for, what it answers and what it changes.
use Rattle.std.specs.Prelude.{ℕ, Bool, List, ◌∷◌, Some, None, Ok, Err, Option, Result}
use Rattle.words.specs.Split.{Placed}
use Rattle.credential.specs.declared.Role.{Role}
use Rattle.credential.specs.declared.Body.{Body}
use Rattle.credential.specs.declared.Body.TheVariants as body
use Rattle.credential.specs.declared.Claim.{Claim}
use Rattle.book.specs.Plain.{Plain, Call, Answer, answer, next}
use Rattle.book.specs.Plain as plain
use Rattle.credential.specs.Same.{Credential}
use Rattle.source.specs.Slips.{present_answer, present_next}
use Rattle.book.specs.Kept.{name_number}
use Rattle.reader.specs.declared.sentence.RoleText.{RoleText}
use Rattle.reader.specs.declared.sentence.Phrase.{Phrase}
use Rattle.reader.specs.declared.sentence.Phrase.TheVariants.{Member, Delegation, Link, Intersection}
use Rattle.reader.specs.declared.sentence.Sentence.{Sentence}
use Rattle.reader.specs.Grammar.{Command, enrol, add, withdraw, present, command_line}

abbrev pub and_then : {X Y E : Type 0} → Result X E → (X → Result Y E) → Result Y E
and_then (Ok x) f = f x
and_then (Err e) f = Err e

-- the number of a name, or the byte of a name that is not enrolled
abbrev pub known_by : ℕ → Option ℕ → Result ℕ ℕ
known_by byte (Some n) = Ok n
known_by byte None = Err byte

abbrev pub known : List (List ℕ) → Placed → Result ℕ ℕ
known names w = known_by w.byte (name_number names w.text)

-- a statement by the numbers of its names, which are looked up from left to right among the
-- entities E and the role names R
abbrev pub known_role : List (List ℕ) → List (List ℕ) → RoleText Placed → Result Role ℕ
known_role E R r = and_then (known E r.entity) (λ e. and_then (known R r.name) (λ n. Ok (record { entity = record { 0 = e }; name = record { 0 = n } })))

abbrev pub known_body : {W : Type 0} → List (List ℕ) → List (List ℕ) → Phrase Placed W → Result (Body W) ℕ
known_body E R (Member x w) = and_then (known E x) (λ e. Ok (body.Member (record { 0 = e }) w))
known_body E R (Delegation b) = and_then (known_role E R b) (λ r. Ok (body.Delegation r))
known_body E R (Link b t) = and_then (known_role E R b) (λ r. and_then (known R t) (λ n. Ok (body.Link r (record { 0 = n }))))
known_body E R (Intersection b c) = and_then (known_role E R b) (λ r. and_then (known_role E R c) (λ s. Ok (body.Intersection r s)))

abbrev pub known_claim : {W : Type 0} → List (List ℕ) → List (List ℕ) → Sentence Placed W → Result (Claim W) ℕ
known_claim E R s = and_then (known_role E R s.head) (λ h. and_then (known_body E R s.body) (λ b. Ok (record { head = h; body = b })))

-- what a line asks for, by numbers: a call on register and book, or a credential on the slip
pub data Act : Type 0 where
  calls : Call → Act
  presents : Credential → Act

abbrev pub act_of : Plain → Command → Result Act ℕ
act_of p (enrol w) = Ok (calls (plain.enrol w.text))
act_of p (add s) = and_then (known_claim p.entities p.role_names s) (λ c. Ok (calls (plain.add c)))
act_of p (withdraw s) = and_then (known_claim p.entities p.role_names s) (λ c. Ok (calls (plain.withdraw c)))
act_of p (present s) = and_then (known_claim p.entities p.role_names s) (λ c. Ok (presents c))

-- a fault of the text: its number, and its byte counted from 1
pub record Fault : Type 0 where
  pub number : ℕ
  pub byte : ℕ

abbrev pub faulty : {X : Type 0} → ℕ → Result X ℕ → Result X Fault
faulty number (Ok x) = Ok x
faulty number (Err byte) = Err (record { number = number; byte = byte })

-- what a line asks for: a malformed line is refused with 17 before any name is looked up, then a
-- name not enrolled with 18
abbrev pub reading : Plain → List ℕ → Bool → Result Act Fault
reading p bs ended = and_then (faulty 17 (command_line bs ended)) (λ c. faulty 18 (act_of p c))

-- what lines change: register and book as the plain book, and the slip
pub record State : Type 0 where
  pub book : Plain
  pub slip : List Credential

-- what a line answers: a fault of its text, or what is answered to what it asks for, whole
pub data Outcome : Type 0 where
  faulted : Fault → Outcome
  answered : Answer → Outcome

abbrev pub outcome_by : State → Result Act Fault → Outcome
outcome_by s (Ok (calls call)) = answered (answer s.book call)
outcome_by s (Ok (presents c)) = answered (present_answer s.slip)
outcome_by s (Err f) = faulted f

abbrev pub outcome : State → List ℕ → Bool → Outcome
outcome s bs ended = outcome_by s (reading s.book bs ended)

-- what a line changes
abbrev pub next_by : State → Result Act Fault → State
next_by s (Ok (calls call)) = record { book = next s.book call; slip = s.slip }
next_by s (Ok (presents c)) = record { book = s.book; slip = present_next s.slip c }
next_by s (Err f) = s

abbrev pub next_line : State → List ℕ → Bool → State
next_line s bs ended = next_by s (reading s.book bs ended)

-- the calls so far, the newest first, with the one that a line makes, if any
abbrev pub calls_by : Result Act Fault → List Call → List Call
calls_by (Ok (calls call)) past = call ∷ past
calls_by (Ok (presents c)) past = past
calls_by (Err f) past = past
