use Rattle.std.proofs.Common.{◌≡◌, ◌++◌, drop, vec_items}
use Rattle.session.specs.State.{state}
use Rattle.session.specs.Roster.{listing}
use Rattle.session.proofs.state.Session.list.Given as goal

abbrev pub invariant-loop-credential : goal.invariant-loop-credential
invariant-loop-credential l =
    vec_items l.out ++ listing (state l.self).book (drop l.credential-index l.credential-items) ≡ listing (state l.self).book l.credential-items
