use Rattle.std.proofs.Common.{◌+◌, arith, le-leb}
use Rattle.scale.proofs.Readings.{distance_kept}
use Rattle.scale.proofs.distance.DistanceScale.combine.Goals as goal

pub returns : goal.returns
returns g c =
    distance_kept g.row.MOST _ _ _ _
    (le-leb (c.args.self.points + c.args.other.points) g.row.MOST (omega (arith, c.in_ok-points.ensures.1))) c.in_ok-points.ensures.1
