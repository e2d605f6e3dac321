use Rattle.std.proofs.Common.{◌≡◌, true, rules}
use Rattle.book.specs.Plain.{enrolled}
use Rattle.book.specs.Kept.{plain}
use Rattle.writer.specs.Written.{text}
use Rattle.writer.proofs.Again.{read_again}
use Rattle.writer.proofs.call.statement_text.Goals as goal

pub returns-clause-read_back : goal.returns-clause-read_back
returns-clause-read_back c = λ b.
    let p = plain c.args.register.now b in
    let credential = c.args.credential.now in
    let known : enrolled p credential ≡ true = search rules in
    let is : c.spell.result.items ≡ text p credential = search rules in
    read_again p credential c.spell.result.items c.in_ok-sentence.ensures.numbers known is
