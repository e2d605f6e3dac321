use Rattle.std.proofs.Common.{◌≡◌, ◌+◌, ◌-◌, ◌*◌, length, arith}
use Rattle.settle.proofs.Noting.{note_more, row_changed_part}
use Rattle.settle.proofs.Rows.{rows_within}
use Rattle.settle.proofs.changes.note_changes.Goals as goal

pub loop-head-preserved : goal.loop-head-preserved
loop-head-preserved g c =
    let m = g.S.Scale.meaning in
    let n = c.args.entities in
    let a = c.loop-head.head * n in
    let k : a + n - a ≡ n = omega arith in
    note_more m n c.loop-head.head c.args.former.now c.args.latest.now c.loop-head.changed c.loop-head.any c.row_changed.result (omega arith) c.loop-head.invariant
    (row_changed_part m c.args.former.now c.args.latest.now a n (a + n - a) k (rows_within n (length c.args.changed.now) (length c.args.former.now) c.requires.room c.loop-head.head (omega arith)) c.row_changed.result c.row_changed.ensures)
