-- The scale of pairs: first parts are compared, then second parts.
use Rattle.std.proofs.Math.Logic.{ite}
use Rattle.std.specs.Prelude.{Some, None, Option}
use Rattle.scale.specs.declared.pair.Pair.{Pair}
use Rattle.scale.specs.Same.{pair_same}
use Rattle.scale.specs.Scale.{Meaning}

module _ {A B : Type 0} where
  abbrev pub pair : A → B → Pair A B
  pair a b = record { first = a; second = b }

  -- none or unreadable if either part is
  abbrev pub both : Option A → Option B → Option (Pair A B)
  both None y = None
  both (Some a) None = None
  both (Some a) (Some b) = Some (pair a b)

module _ {A B : Type 0} (ma : Meaning A) (mb : Meaning B) where
  -- at equal first parts the better second part; else the pair whose first part is better
  abbrev pub pair_better : Pair A B → Pair A B → Pair A B
  pair_better p q =
      ite (ma.same p.first q.first) (pair p.first (mb.better p.second q.second))
      (ite (ma.same (ma.better p.first q.first) p.first) p q)

  abbrev pub pair_meaning : Meaning (Pair A B)
  pair_meaning = record {
    full = pair ma.full mb.full;
    better = pair_better;
    combine = λ p q. both (ma.combine p.first q.first) (mb.combine p.second q.second);
    same = λ p q. pair_same p q (ma.same p.first q.first) (mb.same p.second q.second);
    credential = λ stated. both (ma.credential stated) (mb.credential stated);
    threshold = λ stated. both (ma.threshold stated) (mb.threshold stated);
  }
