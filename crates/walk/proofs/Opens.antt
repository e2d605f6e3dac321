-- What it says that a premise has no number yet, or that none is left.
use Rattle.std.proofs.Common.{◌≡◌, ℕ, cond, List, Some, None, Option, inl, inr, refl, ap, sym, ◌∙◌, subst}
use Rattle.std.specs.Option.{is_none, option_or}
use Rattle.walk.specs.declared.reasons.CellStep.{CellStep}
use Rattle.walk.specs.Walk.{number_in, opened, open_premise, Premise}

module _ (numbers : List (Option ℕ)) where
  opened_some : (o : Option ℕ) (p : ℕ) → opened numbers o ≡ Some p → (o ≡ Some p) × (number_in numbers p ≡ None)
  opened_some None p e = absurd (cc)
  opened_some (Some c) p e = by (number_in numbers c) refl e
    where
      by : (v : Option ℕ) → number_in numbers c ≡ v → cond (is_none v) (Some c) None ≡ Some p → (Some c ≡ Some p) × (number_in numbers p ≡ None)
      by None is t = let q : c ≡ p = cc in (t, ap (number_in numbers) (sym q) ∙ is)
      by (Some k) is t = absurd (cc)

  opened_none : (p : ℕ) → opened numbers (Some p) ≡ None → number_in numbers p ≡ None → ⊥
  opened_none p e un = let made : Some p ≡ None = subst (λ v. cond (is_none v) (Some p) None ≡ None) un e in cc

  pub open_some : (w : CellStep) (p : ℕ) → open_premise numbers w ≡ Some p → Premise w p × (number_in numbers p ≡ None)
  open_some w p e = by (opened numbers w.first) refl e
    where
      by : (o : Option ℕ) → opened numbers w.first ≡ o → option_or o (opened numbers w.second) ≡ Some p → Premise w p × (number_in numbers p ≡ None)
      by None q e = let r = opened_some w.second p e in (inr r.0, r.1)
      by (Some x) q e = let r = opened_some w.first p (q ∙ e) in (inl r.0, r.1)

  pub open_none : (w : CellStep) → open_premise numbers w ≡ None → (p : ℕ) → Premise w p → number_in numbers p ≡ None → ⊥
  open_none w e p = by (opened numbers w.first) refl e
    where
      by : (o : Option ℕ) → opened numbers w.first ≡ o → option_or o (opened numbers w.second) ≡ None → Premise w p → number_in numbers p ≡ None → ⊥
      by None q e (inl is) un = opened_none p (ap (opened numbers) (sym is) ∙ q) un
      by None q e (inr is) un = opened_none p (ap (opened numbers) (sym is) ∙ e) un
      by (Some x) q e is un = cc
