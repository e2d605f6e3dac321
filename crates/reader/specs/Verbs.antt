-- The first word of a line.
use Rattle.std.specs.Prelude.{ℕ, cond, List, Some, None, codes, Option}
use Rattle.std.specs.Str.{bytes_eq}
use Rattle.reader.specs.declared.tokens.Verb.{Verb}
use Rattle.reader.specs.declared.tokens.Verb.TheVariants.{Enrol, Add, Withdraw, Present}

abbrev pub verb_of : List ℕ → Option Verb
verb_of w =
    cond (bytes_eq w (codes "enrol")) (Some Enrol)
    (cond (bytes_eq w (codes "add")) (Some Add)
    (cond (bytes_eq w (codes "withdraw")) (Some Withdraw)
    (cond (bytes_eq w (codes "present")) (Some Present) None)))
