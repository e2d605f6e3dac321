-- Statements and their text, both ways.
use Rattle.std.specs.Prelude.{◌≡◌, ℕ, Bool, true, List, ◌++◌, Ok, codes, FitsSigned}
use Rattle.std.specs.Int.{w32}
use Rattle.credential.specs.declared.Record.{Record}
use Rattle.credential.specs.declared.Body.{Body}
use Rattle.credential.specs.declared.Body.TheVariants.{Member, Delegation, Link, Intersection}
use Rattle.credential.specs.Same.{Credential, Statement}
use Rattle.book.specs.Plain.{Plain, add, withdraw, enrolled}
use Rattle.reader.specs.Calls.{calls, presents, reading}
use Rattle.reader.specs.Spelling.{spelled, spelled_bare, named}

-- a statement line that is read is what its statement spells, byte for byte
pub record SpelledBack (p : Plain) (bs : List ℕ) (ended : Bool) : Type 0 where
  pub added : (c : Credential) → reading p bs ended ≡ Ok (calls (add c)) → (enrolled p c ≡ true) × (bs ≡ codes "add " ++ spelled (named p c))
  pub withdrawn : (s : Statement) → reading p bs ended ≡ Ok (calls (withdraw s)) → (enrolled p s ≡ true) × (bs ≡ codes "withdraw " ++ spelled_bare (named p s))
  pub presented : (c : Credential) → reading p bs ended ≡ Ok (presents c) → (enrolled p c ≡ true) × (bs ≡ codes "present " ++ spelled (named p c))

-- the numbers of a record are of 32 signed bits
abbrev pub Fits32 : Record → Type 0
Fits32 w = FitsSigned w32 w.ceiling × FitsSigned w32 w.distance

abbrev pub BodyFits : Body Record → Type 0
BodyFits (Member x w) = Fits32 w
BodyFits (Delegation b) = Unit {0}
BodyFits (Link b t) = Unit {0}
BodyFits (Intersection b c) = Unit {0}

-- what a statement spells, put on a line, is read as that statement and its record
pub record ReadBack (p : Plain) : Type 0 where
  pub added : (c : Credential) → BodyFits c.body → enrolled p c ≡ true → reading p (codes "add " ++ spelled (named p c)) true ≡ Ok (calls (add c))
  pub withdrawn : (s : Statement) → enrolled p s ≡ true → reading p (codes "withdraw " ++ spelled_bare (named p s)) true ≡ Ok (calls (withdraw s))
  pub presented : (c : Credential) → BodyFits c.body → enrolled p c ≡ true → reading p (codes "present " ++ spelled (named p c)) true ≡ Ok (presents c)
