use Rattle.std.proofs.Common.{sym, ◌∙◌, rules}
use Rattle.source.specs.Shows.{stated}
use Rattle.derivation.proofs.Located.{cell_fits}
use Rattle.derivation.proofs.trail.Trail.cell_of.Goals as goal

pub map-requires : goal.map-requires
map-requires g c = λ h e.
    let a = c.args.self.now.admitted.now in
    let fits = cell_fits a.entities (stated (g.R.Source.shows a.source.now)) a.few a.short c.args.role c.args.member.0 h c.requires.member (sym e ∙ c.head_of.ensures.number) in
    search rules
