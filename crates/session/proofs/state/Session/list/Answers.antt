use Rattle.std.proofs.Common.{◌≡◌, [], ◌∷◌, ◌++◌, vec_items, ◌∙◌, append_assoc, rules}
use Rattle.session.specs.State.{state}
use Rattle.session.proofs.Lists.{enrolled_at, is_told, told_text, one_more}
use Rattle.session.proofs.state.Session.list.Goals as goal

pub unwrap-text-requires : goal.unwrap-text-requires
unwrap-text-requires c =
    let p = (state c.args.self.now).book in
    let known = enrolled_at p c.credentials-credential-items.result.now c.loop-credential.credential-index _ c.credentials-credential-items.ensures c.args.self.now.enrolled c.loop-credential-test.true in
    is_told _ _ _ _ (c.statement_text.ensures.value c.args.self.now.book) known

pub loop-credential-preserved : goal.loop-credential-preserved
loop-credential-preserved c =
    let p = (state c.args.self.now).book in
    let cs = c.credentials-credential-items.result.now in
    let i = c.loop-credential.credential-index in
    let out = vec_items c.loop-credential.out in
    let new = vec_items c.push.new.self in
    let word = c.unwrap-text.result.items in
    let known = enrolled_at p cs i _ c.credentials-credential-items.ensures c.args.self.now.enrolled c.loop-credential-test.true in
    let is = told_text _ _ _ _ (c.statement_text.ensures.value c.args.self.now.book) known c.unwrap-text.result c.unwrap-text.ensures in
    let put : new ≡ out ++ (word ++ 10 ∷ []) = search (rules, append_assoc) in
    one_more p cs i _ c.loop-credential-test.true out new word put is ∙ c.loop-credential.invariant
