use Rattle.std.proofs.Common.{◌≡◌, ℕ, Some, None, Option, refl, ap, arith}
use Rattle.scale.specs.declared.ceiling.Ceiling.{Ceiling}
use Rattle.scale.specs.declared.distance.Distance.{Distance}
use Rattle.scale.specs.declared.pair.Pair.{Pair}
use Rattle.scale.proofs.worked.worked_sums.Goals as goal

abbrev distance_in : {a b : ℕ} → Option (Pair (Distance a) (Ceiling b)) → ℕ
distance_in None = 0
distance_in (Some p) = p.first.points

pub returns : goal.returns
returns c = record {
  reaches = refl;
  passes = refl;
  beats = (refl, λ e. let z : ◌≡◌ {A = ℕ} 1 3 = ap distance_in e in omega arith);
  unstated = refl;
  unknown = refl;
}
