-- What a run of the gate program prints.
use Rattle.std.specs.Prelude.{ℕ, Bool, true, false, cond, List, [], ◌∷◌, ◌++◌, length, Ok, Err, codes, decimal, Result, nat_lt}
use Rattle.words.specs.Split.{split}
use Rattle.book.specs.Plain.{Answer, numbered, at_place, refused, nothing}
use Rattle.reader.specs.Grammar.{first_line}
use Rattle.reader.specs.Calls.{State, Fault, Outcome, faulted, answered, outcome, next_line}

-- a line without its line feed, and whether it has one
pub record Line : Type 0 where
  pub text : List ℕ
  pub ended : Bool

-- what stands between line feeds is a line, but nothing after the last one is none
abbrev pub part_line : List ℕ → Bool → List Line
part_line l true = record { text = l; ended = true } ∷ []
part_line [] false = []
part_line (b ∷ bs) false = record { text = b ∷ bs; ended = false } ∷ []

abbrev pub some : List (List ℕ) → Bool
some [] = false
some (l ∷ ls) = true

-- a line feed ends each part but the last
abbrev pub lines_of : List (List ℕ) → List Line
lines_of [] = []
lines_of (l ∷ ls) = part_line l (some ls) ++ lines_of ls

abbrev pub lines : List ℕ → List Line
lines input = lines_of (split 10 input)

-- an outcome as it is printed: nothing where the line is accepted
abbrev pub printed_fault : Fault → List ℕ
printed_fault f = codes "refused " ++ (decimal f.number ++ (codes " byte " ++ (decimal f.byte ++ 10 ∷ [])))

abbrev pub printed_answer : Answer → List ℕ
printed_answer (numbered k n) = []
printed_answer (at_place n) = []
printed_answer (refused n) = codes "refused " ++ (decimal n ++ 10 ∷ [])

abbrev pub printed : Outcome → List ℕ
printed (faulted f) = printed_fault f
printed (answered a) = printed_answer a

-- no names, no credentials, and nothing presented
abbrev pub start : State
start = record { book = nothing; slip = [] }

-- what lines print, from a state on, and the state after them
abbrev pub answers : State → List Line → List ℕ
answers p [] = []
answers p (l ∷ ls) = printed (outcome p l.text l.ended) ++ answers (next_line p l.text l.ended) ls

abbrev pub after : State → List Line → State
after p [] = p
after p (l ∷ ls) = after (next_line p l.text l.ended) ls

-- the first line must be the header; no line at all is a bad one, at byte 1
abbrev pub header : List Line → Result (Unit {0}) ℕ
header [] = Err 1
header (l ∷ ls) = first_line l.text l.ended

abbrev pub others : List Line → List Line
others [] = []
others (l ∷ ls) = ls

abbrev pub bad_header : ℕ → List ℕ
bad_header byte = printed_fault (record { number = 17; byte = byte })

-- a bad header ends the run
abbrev pub headed : Result (Unit {0}) ℕ → List ℕ → List ℕ
headed (Err byte) rest = bad_header byte
headed (Ok _) rest = rest

abbrev pub fitting : List ℕ → List ℕ → List ℕ
fitting input out = cond (nat_lt 32768 (length input)) (codes "too long" ++ 10 ∷ []) out

-- the output for a whole input
abbrev pub transcript : List ℕ → List ℕ
transcript input = fitting input (headed (header (lines input)) (answers start (others (lines input))))
