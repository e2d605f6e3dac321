use Rattle.std.proofs.Common.{sym}
use Rattle.source.proofs.Rows.{join_past}
use Rattle.source.proofs.joins.JoinSource.shown.Goals as goal

pub returns-then-place-ge-MOST : goal.returns-then-place-ge-MOST
returns-then-place-ge-MOST g c =
    let j = c.args.self.now in
    sym (join_past (g.A.Source.shows j.first) (g.B.Source.shows j.second) c.args.place c.if-place-ge-MOST.true)
