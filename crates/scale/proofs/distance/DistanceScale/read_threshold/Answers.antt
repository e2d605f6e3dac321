use Rattle.std.proofs.Common.{◌≡◌, negsuc, ◌∙◌, arith, rules}
use Rattle.std.proofs.lemmas.Int.{ints}
use Rattle.scale.proofs.Readings.{distance_asking, distance_unlimited}
use Rattle.scale.proofs.distance.DistanceScale.read_threshold.Goals as goal
use Rattle.scale.proofs.distance.DistanceScale.read_threshold.Goals.{in-minus1, in_default+in_ok-points-in_default}

pub returns : goal.returns
returns g c =
    let z = c.args.stated.distance in
    elim c.match-stated.branch [
      | in-minus1 w ↦ let is : z ≡ negsuc 0 = omega (arith, ints) in distance_unlimited g.row.MOST z is _ w.points-is
      | in_default+in_ok-points-in_default w ↦
          let read = w.in_ok-points-in_default.ensures in distance_asking g.row.MOST z (search rules) _ read.0.0 (w.points-is ∙ read.1)
    ]
