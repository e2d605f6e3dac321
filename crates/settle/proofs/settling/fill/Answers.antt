use Rattle.std.proofs.Common.{◌<◌, ◌≢◌, length, replicate, sym, ◌∙◌, arith, get_or-set_other, get_or-set_same, below_more}
use Rattle.std.proofs.lemmas.List.{ext_get_or, get_or-replicate, length-replicate}
use Rattle.settle.proofs.settling.fill.Goals as goal

pub loop-x-preserved : goal.loop-x-preserved
loop-x-preserved g c =
    below_more _ _
    (λ k h. let ne : k ≢ c.loop-x.x-index = omega arith in rw get_or-set_other (c.loop-x.invariant k h))
    (let lt : c.loop-x.x-index < length c.loop-x.list = omega arith in rw get_or-set_same)

pub returns : goal.returns
returns g c =
    let v = c.args.value in
    let n = length c.args.list.now in
    ext_get_or v c.loop-x.list (replicate n v) (c.loop-x.auto.list ∙ sym (length-replicate n v))
    (λ i h. c.loop-x.invariant i (omega arith) ∙ sym (get_or-replicate n i v v (omega arith)))
