-- A register and a book as the plain book, and their answers by number.
use Rattle.std.specs.Prelude.{◌≡◌, ℕ, List, ◌∷◌, length, Ok, Err, vec_items, Option, Result}
use Rattle.std.specs.Str.{bytes_eq}
use Rattle.credential.specs.Same.{Credential}
use Rattle.book.specs.declared.refusal.Kind.{Kind}
use Rattle.book.specs.declared.refusal.Kind.TheVariants as kind
use Rattle.book.specs.declared.refusal.Enrolled.{Enrolled}
use Rattle.book.specs.declared.refusal.Enrolled.TheVariants.{Entity, RoleName}
use Rattle.book.specs.declared.refusal.Refusal.{Refusal}
use Rattle.book.specs.declared.refusal.Refusal.TheVariants.{MalformedName, AlreadyEnrolled, RegisterFull, NotEnrolled, WeightOutOfRange, AlreadyInForce, BookFull, NotInForce}
use Rattle.book.specs.declared.store.Register.{Register}
use Rattle.book.specs.declared.store.Book.{Book}
use Rattle.book.specs.Plain.{Plain, Call, Answer, numbered, at_place, refused, place, fed}

abbrev pub entities : Register → List (List ℕ)
entities g = vec_items g.entities.names

abbrev pub role_names : Register → List (List ℕ)
role_names g = vec_items g.role_names.names

-- the names of a kind
abbrev pub names_of : Kind → Register → List (List ℕ)
names_of kind.Entity g = entities g
names_of kind.RoleName g = role_names g

-- what is told of how many entities and role names there are, at a register
abbrev pub at_counts : {A : Type 0} → (ℕ → ℕ → A) → Register → A
at_counts f g = f (length (entities g)) (length (role_names g))

abbrev pub listed : Book → List Credential
listed b = vec_items b.credentials

abbrev pub plain : Register → Book → Plain
plain g b = record { entities = entities g; role_names = role_names g; credentials = listed b }

abbrev pub number : Refusal → ℕ
number MalformedName = 1
number AlreadyEnrolled = 2
number RegisterFull = 3
number NotEnrolled = 4
number WeightOutOfRange = 5
number AlreadyInForce = 6
number BookFull = 7
number NotInForce = 8

abbrev pub enrol_said : Result Enrolled Refusal → Answer
enrol_said (Ok (Entity e)) = numbered kind.Entity e.0
enrol_said (Ok (RoleName r)) = numbered kind.RoleName r.0
enrol_said (Err e) = refused (number e)

abbrev pub place_said : Result ℕ Refusal → Answer
place_said (Ok n) = at_place n
place_said (Err e) = refused (number e)

-- the law over uses: whatever calls came before, if the state stood as the plain book fed those
-- calls, it stands afterwards as the plain book fed those and this one
abbrev pub StandsAfter : Plain → Call → Plain → Type 0
StandsAfter before call after = (past : List Call) → before ≡ fed past → after ≡ fed (call ∷ past)

-- the number of a name, if it is enrolled
abbrev pub name_number : List (List ℕ) → List ℕ → Option ℕ
name_number ws w = place (bytes_eq w) ws
