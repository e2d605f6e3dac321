-- What better-of gives, where it gives one of its two arguments.
use Rattle.std.proofs.Common.{◌≡◌, Some, ⊎_elim}
use Rattle.scale.specs.Scale.{Meaning, Chooses}
use Rattle.scale.specs.Order.{some_is}

-- where the better of two is not the one, it is the other
pub chosen : {S : Type 0} (m : Meaning S) → Chooses m → (a b : S) → (m.better a b ≡ a → ⊥) → m.better a b ≡ b
chosen m chooses a b n = ⊎_elim (λ e. absurd (n (some_is e))) some_is (chooses (Some a) (Some b))
