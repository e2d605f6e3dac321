use Rattle.std.proofs.Common.{◌≡◌, rules, ap, ◌∙◌}
use Rattle.words.specs.Split.{placed, split}
use Rattle.words.specs.Cursor.{todo}
use Rattle.session.specs.Transcript.{lines_of}
use Rattle.session.specs.Turns.{texts}
use Rattle.session.proofs.Runs.{texts_placed}
use Rattle.session.proofs.lines.Lines.of.Goals as goal

pub returns : goal.returns
returns c =
    let parts = split 10 c.args.input.now in
    let e : todo c.split.result ≡ placed 1 parts = search rules in
    ap (λ ws. lines_of (texts ws)) e ∙ ap lines_of (texts_placed 1 parts)
