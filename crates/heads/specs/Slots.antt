-- The slots of an index of the heads.
use Rattle.std.specs.Prelude.{ℕ, ◌+◌, ◌*◌, cond, List, Some, None, Option, ◌==◌, slice_index}
use Rattle.credential.specs.declared.Role.{Role}

-- the slot of a role, of 64 entities and 32 role names
abbrev pub slot : Role → ℕ
slot r = r.entity.0 * 32 + r.name.0

-- 65,535 stands for no number
abbrev pub as_number : ℕ → Option ℕ
as_number h = cond (h == 65535) None (Some h)

-- what plain numbers, one in each slot, have for a role
abbrev pub number_in : List ℕ → Role → Option ℕ
number_in numbers r = as_number (slice_index numbers (slot r))
