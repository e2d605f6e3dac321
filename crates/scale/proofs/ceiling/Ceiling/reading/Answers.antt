use Rattle.std.proofs.Common.{rules}
use Rattle.scale.proofs.Readings.{ceiling_read}
use Rattle.scale.proofs.ceiling.Ceiling.reading.Goals as goal

pub returns-in_ok-within-in_default : goal.returns-in_ok-within-in_default
returns-in_ok-within-in_default g c =
    let read = c.in_ok-within-in_default.ensures in ceiling_read g.row.MOST c.args.unstated c.args.stated (search rules) _ read.0.0 read.1
