use Rattle.std.proofs.Common.{codes, rules, arith, sym, ap}
use Rattle.std.proofs.lemmas.Slice.Eq.{text_from_reads}
use Rattle.reader.specs.Verbs.{verb_of}
use Rattle.reader.proofs.tokens.read_verb.Goals as goal

pub returns-in-present : goal.returns-in-present
returns-in-present c = ap verb_of (sym (text_from_reads c.args.word.now (codes "present") (omega arith) (search rules)))

pub returns-in-withdraw : goal.returns-in-withdraw
returns-in-withdraw c = ap verb_of (sym (text_from_reads c.args.word.now (codes "withdraw") (omega arith) (search rules)))
