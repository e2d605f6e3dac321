-- What present answers and changes.
use Rattle.std.specs.Prelude.{ℕ, cond, List, [], ◌∷◌, ◌++◌, length, Ok, Err, vec_items, Result, nat_le}
use Rattle.credential.specs.Same.{Credential}
use Rattle.book.specs.Plain.{Answer, at_place, refused}
use Rattle.source.specs.declared.slips.Slip.{Slip}
use Rattle.source.specs.declared.slips.SlipRefusal.{SlipRefusal}
use Rattle.source.specs.declared.slips.SlipRefusal.TheVariants.{Full}

-- the credentials on a slip, in order of place
abbrev pub presented : Slip → List Credential
presented s = vec_items s.credentials

abbrev pub number : SlipRefusal → ℕ
number Full = 20

abbrev pub present_said : Result ℕ SlipRefusal → Answer
present_said (Ok n) = at_place n
present_said (Err e) = refused (number e)

-- a seventeenth is refused and changes nothing; any other goes last
abbrev pub present_answer : List Credential → Answer
present_answer slip = cond (nat_le 16 (length slip)) (refused 20) (at_place (length slip))

abbrev pub present_next : List Credential → Credential → List Credential
present_next slip c = cond (nat_le 16 (length slip)) slip (slip ++ c ∷ [])
