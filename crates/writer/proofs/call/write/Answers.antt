use Rattle.std.proofs.Common.{◌≡◌, ℕ, take, IfSome, Some, Option, rules, sym, ◌∙◌, subst}
use Rattle.std.proofs.lemmas.Result.{IfOk-weaker}
use Rattle.arrayvec.specs.ArrayVec.{ArrayVec}
use Rattle.book.specs.Kept.{plain}
use Rattle.writer.specs.Written.{ReadAgain}
use Rattle.writer.proofs.call.write.Goals as goal

pub returns-clause-read_back : goal.returns-clause-read_back
returns-clause-read_back c = λ b.
    let p = plain c.args.register.now b in
    let credential = c.args.credential.now in
    let new = c.place.new.buffer in
    let text = c.as_slice.result.now in
    let is : c.statement_text.result ≡ Some c.in_ok-text.text = search rules in
    let again = subst (λ (o : Option (ArrayVec ℕ)). IfSome o (λ t. ReadAgain p credential t.items)) is (c.statement_text.ensures.read_back b) in
    IfOk-weaker c.place.result (λ n. take n new ≡ text) (λ n. ReadAgain p credential (take n new)) (λ n put. subst (ReadAgain p credential) (sym (put ∙ c.as_slice.ensures.value)) again) c.place.ensures.holds
