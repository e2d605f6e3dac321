use Rattle.std.proofs.Common.{◌≡◌, Ok, sym, refl, ap, ◌∙◌, rules}
use Rattle.book.specs.Kept.{plain}
use Rattle.source.specs.Slips.{presented}
use Rattle.ruling.specs.Rulings.{ruling_by}
use Rattle.ruling.proofs.Ruled.{ruled}
use Rattle.ruling.proofs.asking.decide_on.Goals as goal

pub returns-in_err-verdict : goal.returns-in_err-verdict
returns-in_err-verdict g c =
    let told : c.from_residual.result ≡ ruling_by g.S.ToldScale.tells c.decide_with_book.result = search rules in
    ruled g.S.Scale.meaning g.S.ToldScale.tells (plain c.args.register.now c.args.book.now) (presented c.args.slip.now) c.args.request _ _ c.decide_with_book.result c.from_residual.result (c.requires.former, c.requires.latest, refl, refl) c.decide_with_book.ensures.decided told

pub returns : goal.returns
returns g c =
    ruled g.S.Scale.meaning g.S.ToldScale.tells (plain c.args.register.now c.args.book.now) (presented c.args.slip.now) c.args.request _ _ c.decide_with_book.result (Ok c.told.result) (c.requires.former, c.requires.latest, refl, refl) c.decide_with_book.ensures.decided
    (ap Ok c.told.ensures ∙ ap (ruling_by g.S.ToldScale.tells) (sym c.in_ok-verdict.was))
