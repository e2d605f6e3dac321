use Rattle.std.proofs.Common.{◌≡◌, ◌+◌, ◌++◌, length}
use Rattle.book.specs.Kept.{entities, role_names}
use Rattle.book.specs.Plain.{first}
use Rattle.source.specs.Shows.{stated}
use Rattle.rules.specs.Cells.{heads}
use Rattle.heads.specs.Index.{Indexed}
use Rattle.heads.specs.Admitted.{bad}
use Rattle.heads.proofs.admission.admit.Given as goal

abbrev pub invariant-loop-place : goal.invariant-loop-place
invariant-loop-place g l =
    let cs = stated (g.R.Source.shows l.source) in
    let p = bad g.S.Scale.meaning (length (entities l.register)) (length (role_names l.register)) in record {
      all : cs ≡ l.yielded ++ l.c-iterator;
      place : l.place ≡ length l.yielded;
      numbered : Indexed l.index (heads l.yielded);
      good : first p cs ≡ l.place + first p l.c-iterator;
    }
