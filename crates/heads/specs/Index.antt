-- The index of the heads: a slot for each role, which has its head number.
use Rattle.std.specs.Prelude.{◌≡◌, ℕ, ◌<◌, List, [], ◌∷◌, ◌++◌, length, Some, None, Option, slice_index_or}
use Rattle.credential.specs.declared.Role.{Role}
use Rattle.rules.specs.Cells.{number}
use Rattle.heads.specs.declared.index.HeadIndex.{HeadIndex}
use Rattle.heads.specs.Slots.{slot}

-- what the index has for a role
abbrev pub head_at : HeadIndex → Role → Option ℕ
head_at index r = slice_index_or index.numbers (slot r) None

-- how many heads it has numbered
abbrev pub head_count : HeadIndex → ℕ
head_count index = index.count

-- the index has the number of each role among some, no number for any other, and how many they are
pub record Indexed (index : HeadIndex) (rs : List Role) : Type 0 where
  pub long : length index.numbers ≡ 2048
  pub right : (r : Role) → r.entity.0 < 64 → r.name.0 < 32 → head_at index r ≡ number rs r
  pub count : head_count index ≡ length rs

-- a role put last among some, unless it is there
abbrev pub noted_as : Option ℕ → List Role → Role → List Role
noted_as None rs r = rs ++ (r ∷ [])
noted_as (Some h) rs r = rs

abbrev pub noted : List Role → Role → List Role
noted rs r = noted_as (number rs r) rs r
