-- What a method that reads a line's words does.
use Rattle.std.specs.Prelude.{◌≡◌, ℕ, ◌+◌, List, length, Result}
use Rattle.words.specs.Split.{Placed}
use Rattle.words.specs.Cursor.{todo}
use Rattle.reader.specs.declared.faults.Malformed.{Malformed}
use Rattle.reader.specs.declared.grammar.Line.{Line}
use Rattle.reader.specs.declared.grammar.Words.{Words}
use Rattle.reader.specs.Grammar.{Got}
use Rattle.reader.specs.Told.{got}

-- the byte just past a line
abbrev pub end_of : Line → ℕ
end_of l = length l.text.now + 1

-- r says by f what a rule gives at the words of old, and new has the words that the rule leaves
abbrev pub Reads : {X Y : Type 0} → (X → Y) → (ℕ → List Placed → Got Y) → Words → Result X Malformed → Words → Type 0
Reads f rule old r new = (got f r (todo new.rest) ≡ rule (end_of old.line) (todo old.rest)) × (new.line ≡ old.line)
