use Rattle.std.proofs.Common.{◌≡◌, ◌+◌, ◌-◌, ◌*◌, arith}
use Rattle.rules.specs.Cells.{heads, number}
use Rattle.source.specs.Shows.{stated}
use Rattle.settle.specs.Moves.{flags, gives}
use Rattle.settle.proofs.Rows.{row_of_placed}
use Rattle.settle.proofs.offers.offer_credential.Goals as goal

pub returns-in-Some : goal.returns-in-Some
returns-in-Some g c =
    let round = c.args.round.now in
    let E = round.admitted.now.entities in
    let rs = heads (stated (g.R.Source.shows round.admitted.now.source.now)) in
    let h = c.in-Some.head in
    let k : h * E + E - h * E ≡ E = omega arith in
    row_of_placed c.args.latest.now c.offer_body.new.weights c.args.reasons.now c.offer_body.new.reasons h E (h * E + E - h * E) k
    (omega (arith, c.in-Some.ensures.held)) (omega (arith, c.in-Some.ensures.held)) (omega arith) (omega arith)
    (gives g.S.Scale.meaning rs E round.former.now (flags round.changed) c.args.place c.args.c.body)
    c.offer_body.ensures (number rs c.args.c.head) c.in-Some.ensures.value
