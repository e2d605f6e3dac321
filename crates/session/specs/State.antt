-- A session's register, book and slip as the state that lines change.
use Rattle.reader.specs.Calls.{State}
use Rattle.reader.specs.Answers as answers
use Rattle.session.specs.declared.state.Session.{Session}

abbrev pub state : Session → State
state s = answers.state s.register s.book s.slip
