-- What putting one name last does to a list of names: for the inner function of enrol.
use Rattle.std.specs.Prelude.{◌≡◌, ℕ, cond, List, [], ◌∷◌, ◌++◌, length, Ok, Err, Result, nat_le}
use Rattle.std.specs.Str.{bytes_eq}
use Rattle.book.specs.declared.refusal.Refusal.{Refusal}
use Rattle.book.specs.declared.refusal.Refusal.TheVariants.{AlreadyEnrolled, RegisterFull}
use Rattle.book.specs.Plain.{among}

-- a word put last among names of which there may be `limit`: the number, and the names after
abbrev pub put_answer : ℕ → List ℕ → List (List ℕ) → Result ℕ Refusal
put_answer limit w ws =
    cond (among (bytes_eq w) ws) (Err AlreadyEnrolled)
    (cond (nat_le limit (length ws)) (Err RegisterFull)
    (Ok (length ws)))

abbrev pub put_names : Result ℕ Refusal → List ℕ → List (List ℕ) → List (List ℕ)
put_names (Ok n) w ws = ws ++ w ∷ []
put_names (Err e) w ws = ws

pub record Puts (limit : ℕ) (w : List ℕ) (ws : List (List ℕ)) (r : Result ℕ Refusal) (after : List (List ℕ)) : Type 0 where
  pub answer : r ≡ put_answer limit w ws
  pub names : after ≡ put_names r w ws
