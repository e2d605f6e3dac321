-- The lines as a table of word patterns, and the byte where a line leaves them all.
use Rattle.std.specs.Prelude.{ℕ, ◌+◌, Bool, true, false, cond, List, [], ◌∷◌, length, is_some, Some, None, Ok, Err, codes, Option, Result}
use Rattle.std.specs.Str.{bytes_eq}
use Rattle.words.specs.Split.{Placed, split, placed}
use Rattle.reader.specs.declared.tokens.Sign.{Sign}
use Rattle.reader.specs.declared.tokens.Sign.TheVariants.{Arrow, And, Colon}
use Rattle.reader.specs.Tokens.{Tok, one, role, link, number, mark, token_of}
use Rattle.reader.specs.Grammar.{a_role, a_number, a_sign, a_word}

-- what a word is to be: just this text, any word that is not empty, an entity's name `A`, a role
-- `A.r`, a linked role `A.r.s`, a number or a sign
pub data Wanted : Type 0 where
  this : List ℕ → Wanted
  any : Wanted
  ENTITY : Wanted
  ROLE : Wanted
  LINKED : Wanted
  NUMBER : Wanted
  sign : Sign → Wanted

abbrev pub names_entity : Option Tok → Bool
names_entity None = false
names_entity (Some (one a)) = true
names_entity (Some (role a r)) = false
names_entity (Some (link a r s)) = false
names_entity (Some (number n)) = false
names_entity (Some (mark s)) = false

abbrev pub names_linked : Option Tok → Bool
names_linked None = false
names_linked (Some (one a)) = false
names_linked (Some (role a r)) = false
names_linked (Some (link a r s)) = true
names_linked (Some (number n)) = false
names_linked (Some (mark s)) = false

abbrev pub fits : Wanted → Placed → Bool
fits (this text) w = bytes_eq w.text text
fits any w = is_some (a_word w)
fits ENTITY w = names_entity (token_of w)
fits ROLE w = is_some (a_role w)
fits LINKED w = names_linked (token_of w)
fits NUMBER w = is_some (a_number w)
fits (sign s) w = is_some (a_sign s w)

abbrev pub Pattern : Type 0
Pattern = List Wanted

-- `enrol NAME`, and the four statements after `add`, after `withdraw` and after `present`
abbrev pub patterns : List Pattern
patterns =
    (this (codes "enrol") ∷ any ∷ []) ∷
    (this (codes "add") ∷ ROLE ∷ sign Arrow ∷ ENTITY ∷ sign Colon ∷ NUMBER ∷ NUMBER ∷ []) ∷
    (this (codes "add") ∷ ROLE ∷ sign Arrow ∷ ROLE ∷ []) ∷
    (this (codes "add") ∷ ROLE ∷ sign Arrow ∷ LINKED ∷ []) ∷
    (this (codes "add") ∷ ROLE ∷ sign Arrow ∷ ROLE ∷ sign And ∷ ROLE ∷ []) ∷
    (this (codes "withdraw") ∷ ROLE ∷ sign Arrow ∷ ENTITY ∷ []) ∷
    (this (codes "withdraw") ∷ ROLE ∷ sign Arrow ∷ ROLE ∷ []) ∷
    (this (codes "withdraw") ∷ ROLE ∷ sign Arrow ∷ LINKED ∷ []) ∷
    (this (codes "withdraw") ∷ ROLE ∷ sign Arrow ∷ ROLE ∷ sign And ∷ ROLE ∷ []) ∷
    (this (codes "present") ∷ ROLE ∷ sign Arrow ∷ ENTITY ∷ sign Colon ∷ NUMBER ∷ NUMBER ∷ []) ∷
    (this (codes "present") ∷ ROLE ∷ sign Arrow ∷ ROLE ∷ []) ∷
    (this (codes "present") ∷ ROLE ∷ sign Arrow ∷ LINKED ∷ []) ∷
    (this (codes "present") ∷ ROLE ∷ sign Arrow ∷ ROLE ∷ sign And ∷ ROLE ∷ []) ∷ []

-- the first line of a text
abbrev pub header_patterns : List Pattern
header_patterns = (this (codes "RTW") ∷ this (codes "0001") ∷ []) ∷ []

-- what is left of the patterns whose next word may be w
abbrev pub left_of : Placed → List Pattern → List Pattern
left_of w [] = []
left_of w ([] ∷ ps) = left_of w ps
left_of w ((k ∷ p) ∷ ps) = cond (fits k w) (p ∷ left_of w ps) (left_of w ps)

abbrev pub none : List Pattern → Bool
none [] = true
none (p ∷ ps) = false

-- some pattern is at its end
abbrev pub some_ends : List Pattern → Bool
some_ends [] = false
some_ends ([] ∷ ps) = true
some_ends ((k ∷ p) ∷ ps) = some_ends ps

-- the byte of the first word that no pattern has there, or `end`, just past the line, where a word
-- is missing
abbrev pub fault : ℕ → List Pattern → List Placed → Option ℕ
fault end ps [] = cond (some_ends ps) None (Some end)
fault end ps (w ∷ ws) = cond (none (left_of w ps)) (Some w.byte) (fault end (left_of w ps) ws)

-- a line feed that is missing stands there too
abbrev pub unless_ended : Bool → ℕ → Option ℕ → Option ℕ
unless_ended ended end (Some byte) = Some byte
unless_ended ended end None = cond ended None (Some end)

abbrev pub line_fault : List Pattern → List ℕ → Bool → Option ℕ
line_fault ps bs ended = unless_ended ended (length bs + 1) (fault (length bs + 1) ps (placed 1 (split 32 bs)))

-- the byte that a reading names, if it fails
abbrev pub fault_of : {X : Type 0} → Result X ℕ → Option ℕ
fault_of (Ok x) = None
fault_of (Err byte) = Some byte
