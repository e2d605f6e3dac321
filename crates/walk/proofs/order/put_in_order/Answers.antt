use Rattle.std.proofs.Common.{refl, ap, length, Option, None, ℕ, arith}
use Rattle.std.proofs.lemmas.List.{length-replicate}
use Rattle.walk.proofs.Walks.{none_yet, start, room_for, pushed, emitted, finish}
use Rattle.walk.proofs.order.put_in_order.Goals as goal

pub loop-top-init : goal.loop-top-init
loop-top-init g c =
    rw (c.push.ensures.items, c.new-stack.ensures, c.requires.unnumbered, c.requires.empty)
    (start (g.G.Reasons.leads c.args.reasons.now) (g.G.Reasons.cells c.args.reasons.now) c.args.goal _ (length-replicate {A = Option ℕ} 32768 None) (none_yet 32768) c.requires.acyclic c.requires.small c.requires.inside)

pub push-requires-in-Some-open_premise : goal.push-requires-in-Some-open_premise
push-requires-in-Some-open_premise g c =
    omega (arith, room_for c.loop-top.invariant c.deref.ensures.0 c.in-Some.ensures.value c.step_of.ensures c.open_premise.ensures c.in-Some-open_premise.is)

pub loop-top-preserved-in-Some-open_premise : goal.loop-top-preserved-in-Some-open_premise
loop-top-preserved-in-Some-open_premise g c =
    rw c.push-in-Some-open_premise.ensures.items
    (pushed c.loop-top.invariant c.deref.ensures.0 c.in-Some.ensures.value c.step_of.ensures c.open_premise.ensures c.in-Some-open_premise.is)

pub loop-top-preserved : goal.loop-top-preserved
loop-top-preserved g c =
    rw c.some.ensures
    (emitted c.loop-top.invariant c.deref.ensures.0 c.in-Some.ensures.value c.step_of.ensures c.open_premise.ensures c.in-None.is
    refl c.len.ensures.value c.push-in-None.ensures.items c.pop.ensures.rest)

pub returns : goal.returns
returns g c = finish c.loop-top.invariant (omega (arith, ap length c.deref.ensures.0, c.in_default.ensures.item.3))
