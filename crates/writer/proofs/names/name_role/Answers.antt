use Rattle.std.proofs.Common.{rules}
use Rattle.std.proofs.lemmas.Option.{slice_get-get_or, slice_get_past}
use Rattle.writer.proofs.names.name_role.Goals as goal

pub returns-in_err-entity : goal.returns-in_err-entity
returns-in_err-entity c = search (rules, slice_get-get_or)

pub returns-in_err-name : goal.returns-in_err-name
returns-in_err-name c = search (rules, slice_get-get_or)

pub returns-clause-value : goal.returns-clause-value
returns-clause-value c = search (rules, slice_get-get_or, slice_get_past)
