-- Where rounds end.
use Rattle.std.proofs.Common.{◌≡◌, ℕ, zero, suc, ◌≤◌, length, sym, subst, arith}
use Rattle.scale.specs.Scale.{Meaning, Laws, AtLeast}
use Rattle.rules.specs.Tables.{system, table}
use Rattle.rules.specs.Theorems.{LeastClosed, RoundsBounded}
use Rattle.rules.proofs.Order.{at_least_refl}
use Rattle.rules.proofs.Rounds.{after_least}
use Rattle.rules.proofs.Spine.{bounded}

module _ {S : Type 0} (M : Meaning S) (laws : Laws M) where
  pub least_closed : LeastClosed M
  least_closed E cs k still =
      (λ q. subst (λ w. AtLeast M (table M E cs k q) w) (sym (still q)) (at_least_refl M laws (table M E cs k q)), λ t closed q. after_least M laws (system M E cs) t closed k q)

  pub rounds_bounded : RoundsBounded M
  rounds_bounded E cs n rounds settled covers = go rounds.last.0 rounds.last.1
    where
      go : (k : ℕ) → n ≡ suc k → n ≤ suc (length settled)
      go zero e = omega arith
      go (suc j) e =
          let r = rounds.earlier j (omega arith) in
          let fit = bounded M laws (system M E cs) n j settled covers (omega arith) r.0 r.1 in
          omega (arith, fit)
