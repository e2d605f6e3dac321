-- Reasons never lead back to themselves, whichever of the equal candidates they name.
use Rattle.std.proofs.Common.{◌≡◌, ℕ, ◌<◌, ◌≤◌, sym, ◌∙◌, subst, arith}
use mathlib.Core.List.{Memᴰ}
use native.Mathlib.Decide.{dec_le}
use Rattle.scale.specs.Scale.{Meaning, Laws, AtLeast}
use Rattle.rules.specs.System.{Candidate, System, weighs, after}
use Rattle.rules.proofs.Order.{at_least_trans, at_least_antisym}
use Rattle.rules.proofs.Rounds.{later, product_below}

module _ {S C : Type 0} (M : Meaning S) (laws : Laws M) (y : System C S) (n : ℕ) where
  -- the candidate that gave a cell the weight it has after n rounds, in the round that first gave it
  pub record Earned (c : C) : Type 0 where
    pub way : Candidate C S
    pub listed : Memᴰ way (y c)
    pub before : ℕ
    pub within : before < n
    pub gave : weighs M (after M y before) way ≡ after M y n c
    pub not_yet : after M y before c ≡ after M y n c → ⊥

  -- a premise of an earned weight weighs at least as much
  pub premise_above : (c : C) (e : Earned c) (p : C) → Memᴰ p e.way.premises → AtLeast M (after M y n p) (after M y n c)
  premise_above c e p m =
      let now : AtLeast M (after M y e.before p) (after M y n c) = subst (AtLeast M (after M y e.before p)) e.gave (product_below M laws y (after M y e.before) e.way.weight e.way.premises m) in
      at_least_trans M laws _ _ _ (later M laws y e.before n (omega arith) p) now

  -- and where it weighs the same, it was earned in an earlier round
  pub premise_earlier : (c : C) (e : Earned c) (p : C) (f : Earned p) → Memᴰ p e.way.premises → after M y n p ≡ after M y n c → f.before < e.before
  premise_earlier c e p f m same = go (dec_le e.before f.before)
    where
      had : AtLeast M (after M y e.before p) (after M y n p)
      had = subst (AtLeast M (after M y e.before p)) (e.gave ∙ sym same) (product_below M laws y (after M y e.before) e.way.weight e.way.premises m)

      go : Dec (e.before ≤ f.before) → f.before < e.before
      go (yes h) = absurd (f.not_yet (at_least_antisym M laws _ _ (at_least_trans M laws _ _ _ (later M laws y e.before f.before h p) had) (later M laws y f.before n (omega arith) p)))
      go (no h) = omega arith
