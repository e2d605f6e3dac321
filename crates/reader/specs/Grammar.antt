-- The lines of the text, word by word. Each rule takes words off the front and gives what they say
-- and the words that are left, or the byte of the first word that is unfit. `end` is the byte just
-- past the line, where a missing word stands.
use Rattle.std.specs.Prelude.{ℕ, ◌+◌, Bool, true, false, cond, List, [], ◌∷◌, length, ℤ, Some, None, Ok, Err, codes, Option, Result}
use Rattle.std.specs.Str.{bytes_eq}
use Rattle.words.specs.Split.{Placed, split, placed}
use Rattle.credential.specs.declared.Record.{Record}
use Rattle.reader.specs.declared.sentence.RoleText.{RoleText}
use Rattle.reader.specs.declared.sentence.Phrase.{Phrase}
use Rattle.reader.specs.declared.sentence.Phrase.TheVariants.{Member, Delegation, Link, Intersection}
use Rattle.reader.specs.declared.sentence.Sentence.{Sentence}
use Rattle.reader.specs.declared.tokens.Sign.{Sign}
use Rattle.reader.specs.declared.tokens.Sign.TheVariants.{Arrow, And, Colon}
use Rattle.reader.specs.declared.tokens.Verb.{Verb}
use Rattle.reader.specs.declared.tokens.Verb.TheVariants as verb
use Rattle.reader.specs.Tokens.{Tok, one, role, link, number, mark, token_of}
use Rattle.reader.specs.Verbs.{verb_of}

-- what a line asks for
pub data Command : Type 0 where
  enrol : Placed → Command
  add : Sentence Placed Record → Command
  withdraw : Sentence Placed (Unit {0}) → Command
  present : Sentence Placed Record → Command

abbrev pub Got : Type 0 → Type 0
Got X = Result (X × List Placed) ℕ

abbrev pub then : {X Y : Type 0} → Got X → (X → List Placed → Got Y) → Got Y
then (Err e) f = Err e
then (Ok p) f = f p.0 p.1

-- the next word, if `pick` finds it fit
abbrev pub picked : {X : Type 0} → Option X → ℕ → List Placed → Got X
picked None byte ws = Err byte
picked (Some x) byte ws = Ok (x, ws)

abbrev pub fit : {X : Type 0} → (Placed → Option X) → ℕ → List Placed → Got X
fit pick end [] = Err end
fit pick end (w ∷ ws) = picked (pick w) w.byte ws

abbrev pub role_in : Option Tok → Option (RoleText Placed)
role_in None = None
role_in (Some (one a)) = None
role_in (Some (role a r)) = Some (record { entity = a; name = r })
role_in (Some (link a r s)) = None
role_in (Some (number n)) = None
role_in (Some (mark s)) = None

abbrev pub number_in : Option Tok → Option ℤ
number_in None = None
number_in (Some (one a)) = None
number_in (Some (role a r)) = None
number_in (Some (link a r s)) = None
number_in (Some (number n)) = Some n
number_in (Some (mark s)) = None

abbrev pub same_sign : Sign → Sign → Bool
same_sign Arrow Arrow = true
same_sign Arrow And = false
same_sign Arrow Colon = false
same_sign And Arrow = false
same_sign And And = true
same_sign And Colon = false
same_sign Colon Arrow = false
same_sign Colon And = false
same_sign Colon Colon = true

abbrev pub sign_in : Sign → Option Tok → Option (Unit {0})
sign_in s None = None
sign_in s (Some (one a)) = None
sign_in s (Some (role a r)) = None
sign_in s (Some (link a r t)) = None
sign_in s (Some (number n)) = None
sign_in s (Some (mark t)) = cond (same_sign t s) (Some tt) None

-- a word that is a role, a number, a sign, that is not empty, or that is just this text
abbrev pub a_role : Placed → Option (RoleText Placed)
a_role w = role_in (token_of w)

abbrev pub a_number : Placed → Option ℤ
a_number w = number_in (token_of w)

abbrev pub a_sign : Sign → Placed → Option (Unit {0})
a_sign s w = sign_in s (token_of w)

abbrev pub filled : Placed → List ℕ → Option Placed
filled w [] = None
filled w (b ∷ bs) = Some w

abbrev pub a_word : Placed → Option Placed
a_word w = filled w w.text

abbrev pub just : List ℕ → Placed → Option (Unit {0})
just text w = cond (bytes_eq w.text text) (Some tt) None

-- `: CEILING DISTANCE`
abbrev pub weight_at : ℕ → List Placed → Got Record
weight_at end ws =
    then (fit (a_sign Colon) end ws) (λ _ ws. then (fit a_number end ws) (λ c ws. then (fit a_number end ws) (λ d ws. Ok (record { ceiling = c; distance = d }, ws))))

-- what follows a role in a body: nothing, or `& C.t`
abbrev pub second_at : ℕ → RoleText Placed → List Placed → Got (Phrase Placed (Unit {0}))
second_at end b [] = Ok (Delegation b, [])
second_at end b (w ∷ ws) = then (fit (a_sign And) end (w ∷ ws)) (λ _ ws. then (fit a_role end ws) (λ c ws. Ok (Intersection b c, ws)))

-- a body by its first word
abbrev pub body_by : ℕ → ℕ → Option Tok → List Placed → Got (Phrase Placed (Unit {0}))
body_by end byte None ws = Err byte
body_by end byte (Some (one x)) ws = Ok (Member x tt, ws)
body_by end byte (Some (role b s)) ws = second_at end (record { entity = b; name = s }) ws
body_by end byte (Some (link b s t)) ws = Ok (Link (record { entity = b; name = s }) t, ws)
body_by end byte (Some (number n)) ws = Err byte
body_by end byte (Some (mark s)) ws = Err byte

abbrev pub body_at : ℕ → List Placed → Got (Phrase Placed (Unit {0}))
body_at end [] = Err end
body_at end (w ∷ ws) = body_by end w.byte (token_of w) ws

-- `A.r <- ` and a body, weights aside
abbrev pub statement_at : ℕ → List Placed → Got (Sentence Placed (Unit {0}))
statement_at end ws =
    then (fit a_role end ws) (λ h ws. then (fit (a_sign Arrow) end ws) (λ _ ws. then (body_at end ws) (λ b ws. Ok (record { head = h; body = b }, ws))))

-- a membership ends in its weight, and no other body does
abbrev pub weighed_at : ℕ → Phrase Placed (Unit {0}) → List Placed → Got (Phrase Placed Record)
weighed_at end (Member x _) ws = then (weight_at end ws) (λ w ws. Ok (Member x w, ws))
weighed_at end (Delegation b) ws = Ok (Delegation b, ws)
weighed_at end (Link b t) ws = Ok (Link b t, ws)
weighed_at end (Intersection b c) ws = Ok (Intersection b c, ws)

abbrev pub credential_at : ℕ → List Placed → Got (Sentence Placed Record)
credential_at end ws =
    then (statement_at end ws) (λ s ws. then (weighed_at end s.body ws) (λ b ws. Ok (record { head = s.head; body = b }, ws)))

abbrev pub command_by : ℕ → ℕ → Option Verb → List Placed → Got Command
command_by end byte None ws = Err byte
command_by end byte (Some verb.Enrol) ws = then (fit a_word end ws) (λ w ws. Ok (enrol w, ws))
command_by end byte (Some verb.Add) ws = then (credential_at end ws) (λ s ws. Ok (add s, ws))
command_by end byte (Some verb.Withdraw) ws = then (statement_at end ws) (λ s ws. Ok (withdraw s, ws))
command_by end byte (Some verb.Present) ws = then (credential_at end ws) (λ s ws. Ok (present s, ws))

abbrev pub command_at : ℕ → List Placed → Got Command
command_at end [] = Err end
command_at end (w ∷ ws) = command_by end w.byte (verb_of w.text) ws

-- the first line of a text
abbrev pub header_at : ℕ → List Placed → Got (Unit {0})
header_at end ws = then (fit (just (codes "RTW")) end ws) (λ _ ws. fit (just (codes "0001")) end ws)

-- nothing may follow
abbrev pub only : {X : Type 0} → X → List Placed → Result X ℕ
only x [] = Ok x
only x (w ∷ ws) = Err w.byte

abbrev pub done : {X : Type 0} → Got X → Result X ℕ
done (Err e) = Err e
done (Ok p) = only p.0 p.1

-- a line must end in a line feed, which is missed just past the line
abbrev pub closed : {X : Type 0} → Bool → ℕ → Result X ℕ → Result X ℕ
closed ended end (Err e) = Err e
closed ended end (Ok x) = cond ended (Ok x) (Err end)

-- a whole line by one of the rules: what it says, or the byte where it is malformed
abbrev pub line_by : {X : Type 0} → (ℕ → List Placed → Got X) → List ℕ → Bool → Result X ℕ
line_by rule bs ended = closed ended (length bs + 1) (done (rule (length bs + 1) (placed 1 (split 32 bs))))

abbrev pub command_line : List ℕ → Bool → Result Command ℕ
command_line bs ended = line_by command_at bs ended

abbrev pub first_line : List ℕ → Bool → Result (Unit {0}) ℕ
first_line bs ended = line_by header_at bs ended
