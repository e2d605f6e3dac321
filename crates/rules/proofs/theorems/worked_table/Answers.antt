use Rattle.std.proofs.Common.{refl}
use Rattle.rules.proofs.theorems.worked_table.Goals as goal

pub returns : goal.returns
returns c = record {
  sums = c.worked_sums.ensures;
  lone_circle = (refl, refl);
  ring_settles = (refl, refl);
  ring_before = refl;
  counted_twice = refl;
}
