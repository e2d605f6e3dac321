-- What the code's values say, its parts of the line as bytes with their places.
use Rattle.std.specs.Prelude.{ℕ, List, Ok, Err, Result}
use Rattle.words.specs.Split.{Placed}
use Rattle.words.specs.Cursor.{told}
use Rattle.reader.specs.declared.faults.Malformed.{Malformed}
use Rattle.reader.specs.declared.faults.Unknown.{Unknown}
use Rattle.reader.specs.declared.sentence.Command as code
use Rattle.reader.specs.declared.sentence.Command.TheVariants.{Enrol, Add, Withdraw, Present}
use Rattle.reader.specs.Sentences.{sentence_by}
use Rattle.reader.specs.Grammar.{Command, enrol, add, withdraw, present, Got}

abbrev pub told_command : code.Command → Command
told_command (Enrol w) = enrol (told w)
told_command (Add s) = add (sentence_by told s)
told_command (Withdraw s) = withdraw (sentence_by told s)
told_command (Present s) = present (sentence_by told s)

-- what a call gave, and the words that it left
abbrev pub got : {X Y : Type 0} → (X → Y) → Result X Malformed → List Placed → Got Y
got f (Ok x) ws = Ok (f x, ws)
got f (Err e) ws = Err e.byte

-- the byte of a fault
abbrev pub at_byte : {X Y : Type 0} → (X → Y) → Result X Malformed → Result Y ℕ
at_byte f (Ok x) = Ok (f x)
at_byte f (Err e) = Err e.byte

abbrev pub unknown_at : {X Y : Type 0} → (X → Y) → Result X Unknown → Result Y ℕ
unknown_at f (Ok x) = Ok (f x)
unknown_at f (Err e) = Err e.byte
