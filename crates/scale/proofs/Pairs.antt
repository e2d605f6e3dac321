-- How two pairs compare, by how their first parts do.
use Rattle.std.proofs.Common.{◌≡◌, Bool, false, Some, Decides, sym, refl, ap, ◌∙◌}
use mathlib.Core.Logic.{if_pos, if_neg}
use Rattle.std.proofs.lemmas.Bool.{false≢true}
use Rattle.std.proofs.lemmas.Bool.Decides.{Decides-like, not_from_Decides}
use Rattle.scale.specs.declared.pair.Pair.{Pair}
use Rattle.scale.specs.Scale.{Meaning, Laws}
use Rattle.scale.specs.Order.{some_is, le_refl}
use Rattle.scale.specs.Same.{pair_is}
use Rattle.scale.specs.Pair.{pair, pair_better}

module _ {A B : Type 0} (ma : Meaning A) (mb : Meaning B) (la : Laws ma) (p q : Pair A B) where
  alike : p.first ≡ q.first → ma.better p.first q.first ≡ p.first
  alike e = ap (ma.better p.first) (sym e) ∙ some_is (le_refl ma la (Some p.first))

  loses : (ma.better p.first q.first ≡ p.first → ⊥) → pair_better ma mb p q ≡ q
  loses n = if_neg (ma.same p.first q.first) (λ e. n (alike e)) _ _ ∙ if_neg (ma.same (ma.better p.first q.first) p.first) n _ _

  pub not_least : (r : Bool) → Decides r (ma.better p.first q.first ≡ p.first) → r ≡ false → Decides r (pair_better ma mb p q ≡ p)
  not_least r h f =
      let n = not_from_Decides r h f in
      (λ e. absurd (false≢true (sym f ∙ e)), λ e. absurd (n (alike (ap (λ (s : Pair A B). s.first) (sym e ∙ loses n)))))

  ties : ma.better p.first q.first ≡ p.first → ma.better q.first p.first ≡ q.first
      → pair_better ma mb p q ≡ pair p.first (mb.better p.second q.second)
  ties h k = if_pos (ma.same p.first q.first) (sym h ∙ some_is (la.better_comm (Some p.first) (Some q.first)) ∙ k) _ _

  pub by_second : (r : Bool) → ma.better p.first q.first ≡ p.first → ma.better q.first p.first ≡ q.first
      → Decides r (mb.better p.second q.second ≡ p.second) → Decides r (pair_better ma mb p q ≡ p)
  by_second r h k =
      Decides-like r (λ e. ties h k ∙ pair_is _ p refl e) (λ e. ap (λ (s : Pair A B). s.second) (sym (ties h k) ∙ e))
