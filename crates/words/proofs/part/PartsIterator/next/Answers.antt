use Rattle.std.proofs.Common.{◌+◌, eqb, rules, tests, sym, ◌∙◌}
use Rattle.std.proofs.lemmas.List.{take_rest}
use Rattle.std.proofs.lemmas.Iterator.{YieldsList-from_slice}
use Rattle.std.proofs.lemmas.Iterator.Search.{position_from_yields_List}
use Rattle.words.proofs.Cuts.{hands_first, hands_last, goes_on}
use Rattle.words.proofs.part.PartsIterator.next.Goals as goal

pub returns-in_default-clause-steps : goal.returns-in_default-clause-steps
returns-in_default-clause-steps c =
    let sep = c.args.self.now.sep in
    let rest = c.in_ok-rest.rest in
    let found = position_from_yields_List (λ b. eqb b sep) _ _ c.position.result c.position.ensures.ran (YieldsList-from_slice rest.text.now (cc)) (λ x b q k. search (rules, tests)) in
    let hands = hands_last sep rest.byte rest.text.now (sym found ∙ c.in_default.is) in
    search rules

pub returns-in_default-clause-goes : goal.returns-in_default-clause-goes
returns-in_default-clause-goes c = goes_on _ _ _ (returns-in_default-clause-steps c)

pub returns-clause-steps : goal.returns-clause-steps
returns-clause-steps c =
    let sep = c.args.self.now.sep in
    let rest = c.in_ok-rest.rest in
    let found = position_from_yields_List (λ b. eqb b sep) _ _ c.position.result c.position.ensures.ran (YieldsList-from_slice rest.text.now (cc)) (λ x b q k. search (rules, tests)) in
    let hands = hands_first sep rest.byte rest.text.now _ (sym found ∙ c.in-Some.is) _ (take_rest rest.text.now (c.in-Some.n + 1)) in
    search rules

pub returns-clause-goes : goal.returns-clause-goes
returns-clause-goes c = goes_on _ _ _ (returns-clause-steps c)
