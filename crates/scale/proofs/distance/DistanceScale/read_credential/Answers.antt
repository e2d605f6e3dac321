use Rattle.std.proofs.Common.{rules}
use Rattle.scale.proofs.Readings.{distance_read}
use Rattle.scale.proofs.distance.DistanceScale.read_credential.Goals as goal

pub returns : goal.returns
returns g c = distance_read g.row.MOST c.args.stated.distance (search rules) _ c.in_ok-points.ensures.0.0 c.in_ok-points.ensures.1
