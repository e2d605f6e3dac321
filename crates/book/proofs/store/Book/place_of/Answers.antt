use Rattle.std.proofs.Common.{◌∙◌, rules}
use Rattle.std.proofs.lemmas.Iterator.{YieldsList-from_slice}
use Rattle.std.proofs.lemmas.Iterator.Search.{position_from_yields_List}
use Rattle.credential.specs.Same.{says}
use Rattle.book.specs.Kept.{listed}
use Rattle.book.proofs.Firsts.{place_is}
use Rattle.book.proofs.store.Book.place_of.Goals as goal

pub returns : goal.returns
returns c =
    position_from_yields_List (says c.args.statement.now) _ _ _ c.position.ensures.ran (YieldsList-from_slice (listed c.args.self.now) cc) (λ x b q k. search rules)
    ∙ place_is (says c.args.statement.now) (listed c.args.self.now)
