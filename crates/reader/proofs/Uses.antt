-- What holds of one line holds over uses.
use Rattle.std.proofs.Common.{◌≡◌, ℕ, Bool, List, Ok, Err, Result, ap, ◌∙◌}
use Rattle.book.specs.Plain.{Call, next, fed}
use Rattle.reader.specs.Calls.{Act, calls, presents, Fault, State, reading, next_by, next_line, calls_by}
use Rattle.reader.specs.Answers.{StandsAfterLine}

book_next : (s : State) (r : Result Act Fault) (past : List Call) → s.book ≡ fed past → (next_by s r).book ≡ fed (calls_by r past)
book_next s (Ok (calls call)) past h = ap (λ p. next p call) h
book_next s (Ok (presents c)) past h = h
book_next s (Err f) past h = h

pub over_uses : (before after : State) (bs : List ℕ) (ended : Bool) → after ≡ next_line before bs ended → StandsAfterLine before bs ended after
over_uses before after bs ended e past h =
    ap (λ s. s.book) e ∙ book_next before (reading before.book bs ended) past h ∙ ap (λ p. fed (calls_by (reading p bs ended) past)) h
