use Rattle.std.proofs.Common.{◌≡◌, true, subst, sym}
use Rattle.reader.specs.Calls.{State, reading}
use Rattle.session.specs.State.{state}
use Rattle.session.specs.Listed.{all_enrolled}
use Rattle.session.proofs.Lists.{still_enrolled}
use Rattle.session.proofs.state.Session.answer.Goals as goal

pub invariant_of-self : goal.invariant_of-self
invariant_of-self c =
    let s = state c.args.self.now in
    let kept = still_enrolled s (reading s.book c.args.line.text.now c.args.line.ended) c.args.self.now.enrolled in
    record { enrolled = subst (λ (q : State). all_enrolled q.book ≡ true) (sym c.read-reply.ensures.changes) kept }
