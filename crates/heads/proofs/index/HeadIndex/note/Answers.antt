use Rattle.std.proofs.Common.{rules}
use Rattle.heads.proofs.Numbering.{index_more}
use Rattle.heads.proofs.index.HeadIndex.note.Goals as goal

pub returns-then-is_none : goal.returns-then-is_none
returns-then-is_none c =
    λ rs ix. index_more c.args.self.now rs ix c.args.head c.requires.known c.slot_of.result c.slot_of.ensures (search rules)
