-- What a round leaves out can change nothing: the flags say which rows the last round changed.
use Rattle.std.proofs.Common.{◌≡◌, ℕ, zero, suc, ◌<◌, ◌≤◌, Bool, false, ◌⊎◌, List, [], ◌∷◌, map, Some, None, Option, sym, refl, ap, ◌∙◌, subst, ap₂, inl, inr, true≢false}
use mathlib.Core.List.{Memᴰ}
use mathlib.Core.List.Memᴰ
use Rattle.std.proofs.lemmas.Bool.{cases_lt, or_parts}
use Rattle.scale.specs.Scale.{Meaning, Laws, combined, AtLeast}
use Rattle.credential.specs.declared.Role.{Role}
use Rattle.credential.specs.Same.{Credential}
use Rattle.rules.specs.System.{Table, product, weighs}
use Rattle.rules.specs.declared.memberships.Membership.{Membership}
use Rattle.rules.specs.Ways.{belongs, Way, ways}
use Rattle.rules.specs.Tables.{candidate, weight_by, table}
use Rattle.rules.specs.Cells.{heads, number}
use Rattle.rules.proofs.Order.{at_least_none, best_upper}
use Rattle.heads.specs.Enrolled.{AllIn}
use Rattle.settle.specs.Moves.{flag_of, moved, worth_by, worth}
use Rattle.settle.proofs.Beyond.{beyond, headless}

module _ {S : Type 0} (m : Meaning S) (E : ℕ) (cs : List Credential) where
  -- the table a round earlier
  abbrev pub prior : ℕ → Table Membership S
  prior zero = λ _. None
  prior (suc k) = table m E cs k

  -- a row whose flag is not set is as it was a round earlier
  abbrev pub Unmoved : ℕ → Option (List Bool) → Type 0
  Unmoved k changed = (r : Role) (h x : ℕ) → number (heads cs) r ≡ Some h → flag_of changed (Some h) ≡ false → x < E → table m E cs k (belongs r x) ≡ prior k (belongs r x)

module _ {S : Type 0} (m : Meaning S) (laws : Laws m) (E : ℕ) (cs : List Credential) (known : AllIn E cs) where
  prior_headless : (k : ℕ) (r : Role) (x : ℕ) → number (heads cs) r ≡ None → prior m E cs k (belongs r x) ≡ None
  prior_headless zero r x h = refl
  prior_headless (suc k) r x h = headless m laws E cs known k r x h

  prior_beyond : (k : ℕ) (r : Role) (x : ℕ) → E ≤ x → prior m E cs k (belongs r x) ≡ None
  prior_beyond zero r x h = refl
  prior_beyond (suc k) r x h = beyond m laws E cs known k r x h

  module _ (k : ℕ) (changed : Option (List Bool)) (unmoved : Unmoved m E cs k changed) where
    pub as_before : (q : Membership) → moved (heads cs) changed q ≡ false → table m E cs k q ≡ prior m E cs k q
    as_before q = by (number (heads cs) q.role) refl (cases_lt q.member.0 E)
      where
        by : (n : Option ℕ) → number (heads cs) q.role ≡ n → (q.member.0 < E) ⊎ (E ≤ q.member.0) → flag_of changed n ≡ false → table m E cs k q ≡ prior m E cs k q
        by None e l f = headless m laws E cs known k q.role q.member.0 e ∙ sym (prior_headless k q.role q.member.0 e)
        by (Some h) e (inr l) f = beyond m laws E cs known k q.role q.member.0 l ∙ sym (prior_beyond k q.role q.member.0 l)
        by (Some h) e (inl l) f = unmoved q.role h q.member.0 e f l

    -- premises that are as they were weigh what they weighed
    same_product : (w : Option S) (ps : List Membership) → worth_by (heads cs) changed ps ≡ false → product m w (map (table m E cs k) ps) ≡ product m w (map (prior m E cs k) ps)
    same_product w [] f = refl
    same_product w (q ∷ []) f = ap (λ (v : Option S). combined m v w) (as_before q f)
    same_product w (q ∷ (p ∷ ps)) f =
        let both = or_parts (moved (heads cs) changed q) (worth_by (heads cs) changed (p ∷ ps)) f in
        ap₂ (combined m) (as_before q both.0) (same_product w (p ∷ ps) both.1)

  -- in the first round, a way with premises weighs none
  first_none : (w : Option S) (ps : List Membership) → worth_by (heads cs) None ps ≡ false → product m w (map (table m E cs zero) ps) ≡ None
  first_none w [] f = absurd (true≢false f)
  first_none w (q ∷ ps) f = refl

  -- a way that is not worth offering weighs no more than the entry
  pub skipped_below : (k : ℕ) (changed : Option (List Bool)) → Unmoved m E cs k changed → (k ≡ 0 → changed ≡ None) → (q : Membership) (y : Way S) → Memᴰ y (ways m E cs q) → worth (heads cs) changed y ≡ false → AtLeast m (table m E cs k q) (weight_by m (table m E cs k) y)
  skipped_below zero changed unmoved first q y i f =
      let none = first_none y.weight y.premises (subst (λ (c : Option (List Bool)). worth (heads cs) c y ≡ false) (first refl) f) in
      subst (λ (v : Option S). AtLeast m None v) (sym none) (at_least_none m laws None)
  skipped_below (suc k) changed unmoved first q y i f =
      subst (λ (v : Option S). AtLeast m (table m E cs (suc k) q) v) (sym (same_product (suc k) changed unmoved y.weight y.premises f))
      (best_upper m laws (map (weighs m (table m E cs k)) (map (candidate m) (ways m E cs q))) (Memᴰ.map (weighs m (table m E cs k)) (Memᴰ.map (candidate m) i)))
