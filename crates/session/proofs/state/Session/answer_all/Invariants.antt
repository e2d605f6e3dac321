use Rattle.std.proofs.Common.{◌≡◌, ◌++◌, string_bytes}
use Rattle.session.specs.State.{state}
use Rattle.session.specs.Transcript.{answers, after}
use Rattle.session.specs.Turns.{left_lines}
use Rattle.session.proofs.state.Session.answer_all.Given as goal

abbrev pub invariant-loop-line : goal.invariant-loop-line
invariant-loop-line l =
    (string_bytes l.out ++ answers (state l.self) (left_lines l.line-iterator) ≡ string_bytes l.initial.out ++ answers (state l.initial.self) (left_lines l.initial.line-iterator))
    × (after (state l.self) (left_lines l.line-iterator) ≡ after (state l.initial.self) (left_lines l.initial.line-iterator))
