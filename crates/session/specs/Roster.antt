-- What a run of the roster program prints: every statement in force after the lines of an input.
use Rattle.std.specs.Prelude.{ℕ, List, [], ◌∷◌, ◌++◌}
use Rattle.credential.specs.Same.{Credential}
use Rattle.book.specs.Plain.{Plain}
use Rattle.writer.specs.Written.{text}
use Rattle.session.specs.Transcript.{lines, header, others, headed, fitting, start, after}

-- credentials as add spells them, one a line
abbrev pub listing : Plain → List Credential → List ℕ
listing p [] = []
listing p (c ∷ cs) = text p c ++ (10 ∷ listing p cs)

abbrev pub in_force : Plain → List ℕ
in_force p = listing p p.credentials

-- the output for a whole input: refused lines print nothing here, but a bad header does
abbrev pub roster : List ℕ → List ℕ
roster input = fitting input (headed (header (lines input)) (in_force (after start (others (lines input))).book))
