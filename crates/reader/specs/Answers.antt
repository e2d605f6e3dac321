-- What the reader's answers say, by number and values.
use Rattle.std.specs.Prelude.{◌≡◌, ℕ, Bool, List, Ok, Err, Result}
use Rattle.book.specs.declared.store.Register.{Register}
use Rattle.book.specs.declared.store.Book.{Book}
use Rattle.book.specs.Plain.{Call, at_place, refused, fed}
use Rattle.book.specs.Kept.{plain, number, enrol_said}
use Rattle.source.specs.declared.slips.Slip.{Slip}
use Rattle.source.specs.Slips as slips
use Rattle.source.specs.Slips.{presented}
use Rattle.reader.specs.declared.faults.ReadFault.{ReadFault}
use Rattle.reader.specs.declared.faults.ReadFault.TheVariants.{Malformed, Unknown, Refused, NotPresented}
use Rattle.reader.specs.declared.lines.Reply.{Reply}
use Rattle.reader.specs.declared.lines.Reply.TheVariants.{Enrolled, Added, Withdrawn, Presented}
use Rattle.reader.specs.Calls.{State, Outcome, faulted, answered, reading, calls_by}

abbrev pub fault_number : ReadFault → ℕ
fault_number (Malformed byte) = 17
fault_number (Unknown byte) = 18
fault_number (Refused e) = number e
fault_number (NotPresented e) = slips.number e

-- a fault of the text has its byte; the refusal of what the line asks for is carried whole
abbrev pub fault_said : ReadFault → Outcome
fault_said (Malformed byte) = faulted (record { number = fault_number (Malformed byte); byte = byte })
fault_said (Unknown byte) = faulted (record { number = fault_number (Unknown byte); byte = byte })
fault_said (Refused e) = answered (refused (fault_number (Refused e)))
fault_said (NotPresented e) = answered (refused (fault_number (NotPresented e)))

abbrev pub line_said : Result Reply ReadFault → Outcome
line_said (Ok (Enrolled n)) = answered (enrol_said (Ok n))
line_said (Ok (Added n)) = answered (at_place n)
line_said (Ok (Withdrawn n)) = answered (at_place n)
line_said (Ok (Presented n)) = answered (at_place n)
line_said (Err e) = fault_said e

-- the law over uses: whatever calls came before, if the state stood as the plain book fed those
-- calls, it stands afterwards as the plain book fed those and the one that the line makes, if any
abbrev pub StandsAfterLine : State → List ℕ → Bool → State → Type 0
StandsAfterLine before bs ended after = (past : List Call) → before.book ≡ fed past → after.book ≡ fed (calls_by (reading (fed past) bs ended) past)

-- a register, its book and a slip as such a state
abbrev pub state : Register → Book → Slip → State
state g b s = record { book = plain g b; slip = presented s }
