use Rattle.std.proofs.Common.{length}
use Rattle.rules.specs.Cells.{heads}
use Rattle.source.specs.Shows.{stated}
use Rattle.settle.proofs.Rows.{held}
use Rattle.settle.proofs.round.Round.head_of.Goals as goal

pub returns-clause-held : goal.returns-clause-held
returns-clause-held g c =
    let round = c.args.self.now in
    held (heads (stated (g.R.Source.shows round.admitted.now.source.now))) round.admitted.now.entities (length round.former.now) round.level c.args.role c.head_of.result c.head_of.ensures.number
