use Rattle.std.proofs.Common.{◌≡◌, None, fold, ◌∙◌, rules}
use Rattle.scale.specs.Scale.{better_of}
use Rattle.scale.proofs.Weights.{best_by_fold}
use Rattle.scale.proofs.weight.best.Goals as goal

pub returns : goal.returns
returns g c =
    let m = g.S.Scale.meaning in
    let folded : c.fold.result ≡ fold (better_of m) None c.args.list.now = search rules in
    folded ∙ best_by_fold g.met.S.Scale.laws None c.args.list.now
