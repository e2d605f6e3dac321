use Rattle.std.proofs.Common.{Ok, rules}
use Rattle.reader.proofs.Places.{command_placed}
use Rattle.reader.proofs.grammar.parse.Goals as goal

pub returns-clause-place : goal.returns-clause-place
returns-clause-place c = command_placed (Ok c.in_ok-command.command) c.args.line.text.now c.args.line.ended (search rules)
