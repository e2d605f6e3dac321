-- Sums worked by number, over the greatest distance and the greatest ceiling.
use Rattle.std.specs.Prelude.{◌≡◌, ℕ, ℤ, pos, negsuc, Some, None, Option}
use Rattle.credential.specs.declared.Record.{Record}
use Rattle.scale.specs.declared.ceiling.Ceiling.{Ceiling}
use Rattle.scale.specs.declared.distance.Distance.{Distance}
use Rattle.scale.specs.declared.pair.Pair.{Pair}
use Rattle.scale.specs.Scale.{Meaning, combined, Stricter}
use Rattle.scale.specs.Ceiling.{ceiling_meaning}
use Rattle.scale.specs.Distance.{distance_meaning}
use Rattle.scale.specs.Pair.{pair_meaning}

module _ (most_points most_bytes : ℕ) where
  abbrev distances : Meaning (Distance most_points)
  distances = distance_meaning most_points

  abbrev ceilings : Meaning (Ceiling most_bytes)
  ceilings = ceiling_meaning most_bytes

  abbrev nearest : Meaning (Pair (Distance most_points) (Ceiling most_bytes))
  nearest = pair_meaning distances ceilings

  abbrev stating : (ceiling distance : ℤ) → Record
  stating c d = record { ceiling = c; distance = d }

  -- what a credential that states so much weighs
  abbrev points : ℕ → Option (Distance most_points)
  points d = distances.credential (stating (negsuc 0) (pos d))

  abbrev near : (distance ceiling : ℕ) → Option (Pair (Distance most_points) (Ceiling most_bytes))
  near d c = nearest.credential (stating (pos c) (pos d))

  -- the weight is one of n points, of n bytes
  abbrev IsPoints : Option (Distance most_points) → ℕ → Type 0
  IsPoints None n = ⊥
  IsPoints (Some a) n = a.points ≡ n

  abbrev IsBytes : Option (Ceiling most_bytes) → ℕ → Type 0
  IsBytes None n = ⊥
  IsBytes (Some a) n = a.bytes ≡ n

  pub record WorkedSums : Type 0 where
    -- distances 600,000 and 400,000 combine to 1,000,000
    pub reaches : IsPoints (combined distances (points 600000) (points 400000)) 1000000
    -- and 600,000 and 400,001 to none
    pub passes : combined distances (points 600000) (points 400001) ≡ None
    -- distance 1 with ceiling 800 beats distance 3 with ceiling 2,000
    pub beats : Stricter nearest (near 1 800) (near 3 2000)
    -- a credential's ceiling -1 reads as the greatest, a threshold's as 0
    pub unstated : IsBytes (ceilings.credential (stating (negsuc 0) (pos 0))) 2147483647
    pub unknown : IsBytes (ceilings.threshold (stating (negsuc 0) (pos 0))) 0
