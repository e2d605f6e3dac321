-- The credentials in force are enrolled: what a session keeps.
use Rattle.std.specs.Prelude.{Bool}
use Rattle.std.specs.List.{list_all}
use Rattle.book.specs.Plain.{Plain, enrolled}

abbrev pub all_enrolled : Plain → Bool
all_enrolled p = list_all (enrolled p) p.credentials
