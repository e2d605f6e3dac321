use Rattle.std.proofs.Common.{◌≡◌, ◌∙◌, rules}
use Rattle.std.specs.Str.{bytes_eq}
use Rattle.std.proofs.lemmas.Iterator.{YieldsList-from_slice}
use Rattle.std.proofs.lemmas.Iterator.Search.{position_from_yields_List}
use Rattle.book.specs.Kept.{name_number}
use Rattle.book.proofs.Firsts.{place_is}
use Rattle.book.proofs.store.list.number_of.Goals as goal

pub returns : goal.returns
returns c =
    let found : c.position.result ≡ name_number c.args.names.now c.args.word.now =
    position_from_yields_List (bytes_eq c.args.word.now) _ _ _ c.position.ensures.ran (YieldsList-from_slice c.args.names.now cc) (λ x b q k. search rules)
    ∙ place_is (bytes_eq c.args.word.now) c.args.names.now in
    search rules
