-- Small books and sums, worked by number.
use Rattle.std.specs.Prelude.{◌≡◌, ℕ, List, [], ◌∷◌, pos, None, Option}
use Rattle.credential.specs.declared.Role.{Role}
use Rattle.credential.specs.declared.Record.{Record}
use Rattle.credential.specs.declared.Body.{Body}
use Rattle.credential.specs.declared.Body.TheVariants.{Member, Delegation, Intersection}
use Rattle.credential.specs.Same.{Credential}
use Rattle.scale.specs.declared.ceiling.Ceiling.{Ceiling}
use Rattle.scale.specs.declared.distance.Distance.{Distance}
use Rattle.scale.specs.Scale.{Meaning}
use Rattle.scale.specs.Ceiling.{ceiling_meaning}
use Rattle.scale.specs.Distance.{distance_meaning}
use Rattle.scale.specs.WorkedSums.{WorkedSums}
use Rattle.rules.specs.Ways.{belongs}
use Rattle.rules.specs.Tables.{table}
use Rattle.rules.specs.Cells.{weights_after}

abbrev ceilings : Meaning (Ceiling 2147483647)
ceilings = ceiling_meaning 2147483647

abbrev distances : Meaning (Distance 1000000)
distances = distance_meaning 1000000

abbrev stating : ℕ → ℕ → Record
stating c d = record { ceiling = pos c; distance = pos d }

abbrev bytes : ℕ → Option (Ceiling 2147483647)
bytes c = ceilings.credential (stating c 0)

abbrev points : ℕ → Option (Distance 1000000)
points d = distances.credential (stating 0 d)

abbrev role : ℕ → ℕ → Role
role e n = record { entity = record { 0 = e }; name = record { 0 = n } }

abbrev states : Role → Body Record → Credential
states h b = record { head = h; body = b }

-- A, B and X are the entities 0, 1 and 2, and r and s the role names 0 and 1
abbrev a_r : Role
a_r = role 0 0

abbrev b_s : Role
b_s = role 1 1

-- A.r <- A.r
abbrev alone : List Credential
alone = states a_r (Delegation a_r) ∷ []

-- A.r <- B.s, B.s <- A.r and A.r <- X at 700
abbrev ring : List Credential
ring = states a_r (Delegation b_s) ∷ states b_s (Delegation a_r) ∷ states a_r (Member (record { 0 = 2 }) (stating 700 0)) ∷ []

-- B.s <- X at distance 2, and A.r <- B.s & B.s
abbrev twice : List Credential
twice = states b_s (Member (record { 0 = 2 }) (stating 0 2)) ∷ states a_r (Intersection b_s b_s) ∷ []

-- the weights of all cells after n rounds, of which the last changed nothing and the one before did
abbrev SettlesIn : {S : Type 0} → Meaning S → List Credential → ℕ → ℕ → List (Option S) → Type 0
SettlesIn M cs k n ws = (weights_after M 3 cs n ≡ ws) × (weights_after M 3 cs k ≡ ws)

pub record WorkedTable : Type 0 where
  -- five sums
  pub sums : WorkedSums 1000000 2147483647
  -- `A.r <- A.r` alone settles nothing: its first round changes nothing
  pub lone_circle : SettlesIn ceilings alone 0 1 (None ∷ None ∷ None ∷ [])
  -- the ring settles X in A.r and in B.s at 700 in 3 rounds: the third changes nothing, the second did
  pub ring_settles : SettlesIn ceilings ring 2 3 (None ∷ None ∷ bytes 700 ∷ None ∷ None ∷ bytes 700 ∷ [])
  pub ring_before : weights_after ceilings 3 ring 1 ≡ None ∷ None ∷ bytes 700 ∷ None ∷ None ∷ None ∷ []
  -- a premise cited twice counts twice
  pub counted_twice : table distances 3 twice 2 (belongs a_r 2) ≡ points 4
