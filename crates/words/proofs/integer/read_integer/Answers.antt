use Rattle.std.proofs.Common.{◌≡◌, true, sym, ap, ◌∙◌}
use Rattle.words.specs.Begins.{plain}
use Rattle.words.specs.Integer.{integer}
use Rattle.words.proofs.Spelling.{parsed}
use Rattle.words.proofs.integer.read_integer.Goals as goal

pub returns-clause-value : goal.returns-clause-value
returns-clause-value c =
    let same = c.in-Ok.ensures.cases.0 in
    let begins : plain c.in-Ok.text.now ≡ true = ap plain same ∙ sym c.is_plain.ensures ∙ c.if-not-is_plain.false in
    c.ok.ensures.value ∙ parsed c.in-Ok.text.now c.parse.result begins c.parse.ensures.value.0 ∙ ap integer same
