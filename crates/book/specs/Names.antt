-- What a name is.
use Rattle.std.specs.Prelude.{ℕ, Bool, cond, ◌&&◌, ◌||◌, List, length, Some, None, Option, ◌==◌, nat_le, nat_lt, slice_index}
use Rattle.std.specs.List.{list_all}
use Rattle.std.specs.Char.{is_ascii_alphanumeric, is_ascii_uppercase, is_ascii_lowercase}
use Rattle.book.specs.declared.refusal.Kind.{Kind}
use Rattle.book.specs.declared.refusal.Kind.TheVariants.{Entity, RoleName}

-- an ASCII letter, a digit or an underscore
abbrev pub name_byte : ℕ → Bool
name_byte b = is_ascii_alphanumeric b || b == 95

abbrev pub name_bytes : List ℕ → Bool
name_bytes bs = list_all name_byte bs

-- 1 to 24 such bytes
abbrev pub name : List ℕ → Bool
name w = nat_lt 0 (length w) && (nat_le (length w) 24 && name_bytes w)

-- an entity's name starts with a capital, and a role name with a small letter
abbrev pub entity : List ℕ → Bool
entity w = name w && is_ascii_uppercase (slice_index w 0)

abbrev pub role_name : List ℕ → Bool
role_name w = name w && is_ascii_lowercase (slice_index w 0)

-- the kind of a name, and nothing for a word that is no name
abbrev pub kind_of : List ℕ → Option Kind
kind_of w = cond (entity w) (Some Entity) (cond (role_name w) (Some RoleName) None)
