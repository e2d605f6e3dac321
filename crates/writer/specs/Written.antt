-- What write answers, and what it leaves in the buffer.
use Rattle.std.specs.Prelude.{◌≡◌, ℕ, true, cond, not, List, ◌++◌, length, drop, Ok, Err, codes, Result, nat_lt}
use Rattle.credential.specs.Same.{Credential}
use Rattle.book.specs.Plain.{Plain, Call, add, enrolled, fed}
use Rattle.reader.specs.Calls.{calls, reading}
use Rattle.reader.specs.Spelling.{spelled, named}
use Rattle.writer.specs.declared.refusal.WriteRefusal.{WriteRefusal}
use Rattle.writer.specs.declared.refusal.WriteRefusal.TheVariants.{NotEnrolled, BufferTooShort}

-- the length of what was written, or a refusal by its number
pub data Answer : Type 0 where
  wrote : ℕ → Answer
  refused : ℕ → Answer

abbrev pub number : WriteRefusal → ℕ
number NotEnrolled = 4
number BufferTooShort = 19

abbrev pub said : Result ℕ WriteRefusal → Answer
said (Ok n) = wrote n
said (Err e) = refused (number e)

-- the statement as an add line spells it after `add `, by the names of its numbers
abbrev pub text : Plain → Credential → List ℕ
text p c = spelled (named p c)

-- a number not enrolled, a buffer too short
abbrev pub room_answer : List ℕ → List ℕ → Answer
room_answer text buffer = cond (nat_lt (length buffer) (length text)) (refused 19) (wrote (length text))

abbrev pub answer : Plain → Credential → List ℕ → Answer
answer p c buffer = cond (not (enrolled p c)) (refused 4) (room_answer (text p c) buffer)

abbrev pub unless_refused : Answer → List ℕ → List ℕ → List ℕ
unless_refused (wrote n) before after = after
unless_refused (refused n) before after = before

-- a text at the start of a buffer, and the rest as it was
abbrev pub over : List ℕ → List ℕ → List ℕ
over text buffer = text ++ drop (length text) buffer

-- the buffer afterwards; a refusal leaves all as it was
abbrev pub after : Plain → Credential → List ℕ → List ℕ
after p c buffer = unless_refused (answer p c buffer) buffer (over (text p c) buffer)

-- whatever calls came before, if the state stands as the plain book fed those calls, the text put on
-- an add line is read as this statement with its record
abbrev pub ReadAgain : Plain → Credential → List ℕ → Type 0
ReadAgain p c text = (past : List Call) → p ≡ fed past → reading p (codes "add " ++ text) true ≡ Ok (calls (add c))
