-- Which credentials can be settled.
use Rattle.std.specs.Prelude.{◌≡◌, ℕ, Bool, true, false, not, ◌&&◌, List, is_some, Some, Ok, Err, Result}
use Rattle.credential.specs.declared.Record.{Record}
use Rattle.credential.specs.declared.Body.{Body}
use Rattle.credential.specs.declared.Body.TheVariants.{Member, Delegation, Link, Intersection}
use Rattle.credential.specs.Same.{Credential}
use Rattle.scale.specs.Scale.{Meaning}
use Rattle.book.specs.Plain.{first, among, claim_enrolled}
use Rattle.source.specs.declared.sources.Origin.{Origin}
use Rattle.source.specs.Shows.{Shown, stated, origin_at}

module _ {S : Type 0} (M : Meaning S) where
  -- the scale reads the weight; only a membership has one
  abbrev pub readable : Body Record → Bool
  readable (Member x w) = is_some (M.credential w)
  readable (Delegation b) = true
  readable (Link b t) = true
  readable (Intersection b c) = true

  -- with E entities and R role names enrolled: a number that is not enrolled, or an unreadable weight
  abbrev pub bad : ℕ → ℕ → Credential → Bool
  bad E R c = not (claim_enrolled E R c && readable c.body)

  -- all credentials can be settled; or this is the origin of the first that cannot
  abbrev pub Admits : {A : Type 0} → ℕ → ℕ → List Shown → Result A Origin → Type 0
  Admits E R xs (Ok a) = among (bad E R) (stated xs) ≡ false
  Admits E R xs (Err o) = (among (bad E R) (stated xs) ≡ true) × (origin_at xs (first (bad E R) (stated xs)) ≡ Some o)
