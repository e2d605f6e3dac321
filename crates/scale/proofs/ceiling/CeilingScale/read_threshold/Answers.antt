use Rattle.std.proofs.Common.{refl, ap₂, ◌∙◌, w32, SFits, rules}
use Rattle.std.proofs.lemmas.Int.{to_z-of_z}
use Rattle.scale.specs.Same.{ceiling_is}
use Rattle.scale.specs.Ceiling.{ceiling_reading}
use Rattle.scale.proofs.ceiling.CeilingScale.read_threshold.Goals as goal

pub returns : goal.returns
returns g c =
    let fits : SFits w32 c.args.stated.ceiling = search rules in
    c.reading.ensures ∙ ap₂ (ceiling_reading g.row.MOST) (ceiling_is _ _ refl) (to_z-of_z w32 c.args.stated.ceiling fits)
