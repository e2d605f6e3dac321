-- What was written is read again.
use Rattle.std.proofs.Common.{◌≡◌, ℕ, true, List, ◌++◌, Ok, codes, sym, ap, ◌∙◌, subst}
use Rattle.credential.specs.Same.{Credential}
use Rattle.book.specs.Plain.{Plain, add, enrolled}
use Rattle.reader.specs.Calls.{calls, reading}
use Rattle.reader.specs.RoundTrip.{BodyFits}
use Rattle.reader.proofs.RoundTrips.{read_back}
use Rattle.writer.specs.Written.{text, ReadAgain}

pub read_again : (p : Plain) (c : Credential) (bs : List ℕ) → BodyFits c.body → enrolled p c ≡ true → bs ≡ text p c → ReadAgain p c bs
read_again p c bs fits known is = λ past stands.
    ap (λ t. reading p (codes "add " ++ t) true) is
    ∙ subst (λ q. enrolled q c ≡ true → reading q (codes "add " ++ text q c) true ≡ Ok (calls (add c))) (sym stands) ((read_back past).added c fits) known
