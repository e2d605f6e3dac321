-- From what decide answers to what is ruled on the scale that is named.
use Rattle.std.proofs.Common.{◌≡◌, List, [], length, Result, subst, take_all}
use Rattle.credential.specs.Same.{Credential}
use Rattle.scale.specs.Scale.{Meaning}
use Rattle.book.specs.Plain.{Plain}
use Rattle.source.specs.Shows.{Shown, layer, joined}
use Rattle.source.specs.Short.{cut_short}
use Rattle.decision.specs.declared.request.Request.{Request}
use Rattle.decision.specs.declared.verdict.Verdict.{Verdict}
use Rattle.decision.specs.declared.verdict.DecideRefusal.{DecideRefusal}
use Rattle.decision.specs.Conditions.{Lists}
use Rattle.decision.specs.Decided.{Decided}
use Rattle.ruling.specs.declared.weights.Weight.{Weight}
use Rattle.ruling.specs.Rulings.{ruling_by, Lent, book_and_slip, RuledOn}

-- nothing joined before a join shows the join
nothing_before : (xs ys : List Shown) → joined [] (joined xs ys) ≡ joined xs ys
nothing_before xs ys = take_all 65535 (joined xs ys) (cut_short xs ys)

module _ {S : Type 0} (M : Meaning S) (tell : S → Weight) (p : Plain) (slip : List Credential) (q : Request) (before after : Lists S) (answer : Result (Verdict S) DecideRefusal) (r : Result (Verdict Weight) DecideRefusal) where
  pub ruled : Lent 2048 before → Decided M (length p.entities) (length p.role_names) (joined [] (book_and_slip p slip)) q.goal q.threshold before after answer → r ≡ ruling_by tell answer → RuledOn M tell p slip q r
  ruled lent decided told = record {
    answer = answer;
    before = before;
    after = after;
    lent = lent;
    decided = subst (λ (xs : List Shown). Decided M (length p.entities) (length p.role_names) xs q.goal q.threshold before after answer) (nothing_before (layer 1 p.credentials) (layer 2 slip)) decided;
    told_as = told;
  }
