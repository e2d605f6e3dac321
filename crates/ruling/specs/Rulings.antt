-- What is decided on the scale that a word names, over the book joined with the slip.
use Rattle.std.specs.Prelude.{◌≡◌, ℕ, List, length, Ok, Err, Result}
use Rattle.std.specs.Option.{option_map}
use Rattle.credential.specs.Same.{Credential}
use Rattle.scale.specs.declared.ceiling.Ceiling.{Ceiling}
use Rattle.scale.specs.declared.distance.Distance.{Distance}
use Rattle.scale.specs.declared.pair.Pair.{Pair}
use Rattle.scale.specs.Scale.{Meaning}
use Rattle.scale.specs.Yes.{yes_meaning}
use Rattle.scale.specs.Ceiling.{ceiling_meaning}
use Rattle.scale.specs.Distance.{distance_meaning}
use Rattle.scale.specs.Pair.{pair_meaning}
use Rattle.book.specs.Plain.{Plain}
use Rattle.source.specs.Shows.{Shown, layer, joined}
use Rattle.ruling.specs.declared.asking.ScaleWord.{ScaleWord}
use Rattle.ruling.specs.declared.asking.ScaleWord.TheVariants as word
use Rattle.decision.specs.declared.request.Request.{Request}
use Rattle.decision.specs.declared.verdict.Verdict.{Verdict}
use Rattle.decision.specs.declared.verdict.Verdict.TheVariants.{Granted, Denied}
use Rattle.decision.specs.declared.verdict.DecideRefusal.{DecideRefusal}
use Rattle.decision.specs.Conditions.{Lists}
use Rattle.decision.specs.Decided.{Decided}
use Rattle.ruling.specs.declared.weights.Weight.{Weight}
use Rattle.ruling.specs.declared.weights.Weight.TheVariants as told
use Rattle.ruling.specs.declared.asking.Asked.{Asked}

-- a verdict with its weights told
abbrev pub verdict_by : {S : Type 0} → (S → Weight) → Verdict S → Verdict Weight
verdict_by tell (Granted w k n) = Granted (tell w) k n
verdict_by tell (Denied b n) = Denied (option_map tell b) n

abbrev pub ruling_by : {S : Type 0} → (S → Weight) → Result (Verdict S) DecideRefusal → Result (Verdict Weight) DecideRefusal
ruling_by tell (Ok v) = Ok (verdict_by tell v)
ruling_by tell (Err e) = Err e

-- lists of so many each are lent
abbrev pub Lent : {S : Type 0} → ℕ → Lists S → Type 0
Lent n ls = (length ls.former ≡ n) × (length ls.latest ≡ n) × (length ls.reasons ≡ n) × (length ls.steps ≡ n)

-- the book's credentials and then the slip's
abbrev pub book_and_slip : Plain → List Credential → List Shown
book_and_slip p slip = joined (layer 1 p.credentials) (layer 2 slip)

-- r is what decide answers on a scale, with 2,048 cells lent, its weights told
pub record RuledOn {S : Type 0} (M : Meaning S) (tell : S → Weight) (p : Plain) (slip : List Credential) (q : Request) (r : Result (Verdict Weight) DecideRefusal) : Type 0 where
  pub answer : Result (Verdict S) DecideRefusal
  pub before : Lists S
  pub after : Lists S
  pub lent : Lent 2048 before
  pub decided : Decided M (length p.entities) (length p.role_names) (book_and_slip p slip) q.goal q.threshold before after answer
  pub told_as : r ≡ ruling_by tell answer

abbrev pub bytes : Ceiling 2147483647 → Weight
bytes w = told.Ceiling w.bytes

abbrev pub points : Distance 1000000 → Weight
points w = told.Distance w.points

abbrev pub points_and_bytes : Pair (Distance 1000000) (Ceiling 2147483647) → Weight
points_and_bytes w = told.Nearest w.first.points w.second.bytes

-- the scale that a word names
abbrev pub RulesBy : ScaleWord → Plain → List Credential → Request → Result (Verdict Weight) DecideRefusal → Type 0
RulesBy word.Yes p slip q r = RuledOn yes_meaning (λ _. told.Yes) p slip q r
RulesBy word.Ceiling p slip q r = RuledOn (ceiling_meaning 2147483647) bytes p slip q r
RulesBy word.Distance p slip q r = RuledOn (distance_meaning 1000000) points p slip q r
RulesBy word.Nearest p slip q r = RuledOn (pair_meaning (distance_meaning 1000000) (ceiling_meaning 2147483647)) points_and_bytes p slip q r

abbrev pub Rules : Plain → List Credential → Asked → Result (Verdict Weight) DecideRefusal → Type 0
Rules p slip a r = RulesBy a.scale p slip a.request r
