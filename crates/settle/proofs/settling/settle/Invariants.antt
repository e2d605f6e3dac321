use Rattle.std.proofs.Common.{◌≡◌, ℕ, ◌-◌, ◌<◌, ◌≤◌, length, Some}
use Rattle.rules.specs.Cells.{heads, weights_after, reasons_after}
use Rattle.source.specs.Shows.{stated}
use Rattle.settle.proofs.Ending.{Change}
use Rattle.settle.proofs.Skipping.{Unmoved}
use Rattle.settle.proofs.settling.settle.Given as goal

abbrev pub invariant-rounds : goal.invariant-rounds
invariant-rounds g l =
    let m = g.S.Scale.meaning in
    let E = l.admitted.entities in
    let cs = stated (g.R.Source.shows l.admitted.source.now) in
    record {
      former_is : l.former ≡ weights_after m E cs l.rounds;
      latest_is : l.latest ≡ weights_after m E cs l.rounds;
      reasons_is : l.reasons ≡ reasons_after m E cs l.rounds;
      unmoved : Unmoved m E cs l.rounds (Some l.changed);
      flags_long : length l.changed ≡ length (heads cs);
      few : l.rounds ≤ length l.initial.former;
      earlier : (k : ℕ) → k < l.rounds → Change m E cs k;
    }

abbrev pub decreases-rounds : goal.decreases-rounds
decreases-rounds g l = length l.initial.former - l.rounds
