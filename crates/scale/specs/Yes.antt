-- The scale yes: its one weight other than none is full, and every record reads as it.
use Rattle.std.specs.Prelude.{Some, refl}
use Rattle.scale.specs.declared.yes.Yes.{Yes}
use Rattle.scale.specs.Scale.{Meaning}

abbrev pub the_yes : Yes
the_yes = record {}

abbrev pub yes_meaning : Meaning Yes
yes_meaning = record {
  full = the_yes;
  better = λ a b. the_yes;
  combine = λ a b. Some the_yes;
  same = λ a b. yes refl;
  credential = λ stated. Some the_yes;
  threshold = λ stated. Some the_yes;
}
