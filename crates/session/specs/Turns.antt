-- What answering the lines that are left does: for the inner functions of a run.
use Rattle.std.specs.Prelude.{◌≡◌, ℕ, List, [], ◌∷◌, ◌++◌}
use Rattle.words.specs.Split.{Placed}
use Rattle.words.specs.Cursor.{todo}
use Rattle.reader.specs.declared.grammar.Line.{Line as AnyLine}
use Rattle.reader.specs.Calls.{State}
use Rattle.session.specs.declared.lines.Lines.{Lines}
use Rattle.session.specs.Transcript.{Line, lines_of, answers, after}

abbrev pub told_line : AnyLine → Line
told_line l = record { text = l.text.now; ended = l.ended }

abbrev pub texts : List Placed → List (List ℕ)
texts [] = []
texts (w ∷ ws) = w.text ∷ texts ws

abbrev pub left_lines : Lines → List Line
left_lines s = lines_of (texts (todo s.parts))

pub record Answered (p : State) (ls : List Line) (out : List ℕ) (q : State) (new : List ℕ) : Type 0 where
  pub prints : new ≡ out ++ answers p ls
  pub changes : q ≡ after p ls
