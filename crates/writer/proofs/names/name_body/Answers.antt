use Rattle.std.proofs.Common.{arith, rules, length-append}
use Rattle.std.proofs.lemmas.Option.{slice_get-get_or, slice_get_past}
use Rattle.reader.specs.RoundTrip.{Fits32}
use Rattle.writer.proofs.Short.{weight_short}
use Rattle.writer.proofs.names.name_body.Goals as goal

pub returns-in_ok-spell-in-Member-clause-short : goal.returns-in_ok-spell-in-Member-clause-short
returns-in_ok-spell-in-Member-clause-short c =
    let fits : Fits32 c.in-Member.weight = search rules in
    simp length-append (omega (arith, simp length-append at (weight_short c.in-Member.weight fits), c.in_ok-spell-in-Member.ensures.short))

pub returns-in_ok-spell-in-Link-clause-value : goal.returns-in_ok-spell-in-Link-clause-value
returns-in_ok-spell-in-Link-clause-value c = search (rules, slice_get-get_or, slice_get_past)
