-- The bound on rounds for every scale, choosing or not: along one spine of changes no cell comes twice.
use Rattle.std.proofs.Common.{◌≡◌, ℕ, zero, suc, ◌<◌, ◌≤◌, ◌⊎◌, List, [], ◌∷◌, map, length, None, Option, sym, refl, ap, ◌∙◌, subst, inl, inr, arith}
use mathlib.Core.List.{Memᴰ}
use mathlib.Core.List.Memᴰ
use Rattle.scale.specs.Scale.{Meaning, Laws, better_of, combined, full_weight, AtLeast}
use Rattle.scale.specs.Best.{best_of}
use Rattle.scale.specs.Order.{weight_same}
use Rattle.rules.specs.System.{Candidate, System, Table, product, weighs, round, after}
use Rattle.rules.proofs.Order.{at_least_refl, at_least_trans, at_least_antisym, at_least_none, combine_mono, combine_mono_both, combine_below, better_least, best_upper}
use Rattle.rules.proofs.Rounds.{after_grows, later, Changed, Settled, Distinct, distinct_fit}
use Rattle.rules.proofs.Rounds.Distinct.{nothing, one_more}

module _ {S : Type 0} (M : Meaning S) (laws : Laws M) where
  reaches : (x w : Option S) → Dec (AtLeast M x w)
  reaches x w = weight_same M (better_of M x w) x

  regroup : (v a b : Option S) → combined M v (combined M a b) ≡ combined M (combined M v a) b
  regroup v a b = sym (laws.combine_assoc v a b)

  -- of some candidates, all stay within x in the context u, or one does not
  split : {A : Type 0} (x u : Option S) (f : A → Option S) (ks : List A) → AtLeast M x (combined M u (best_of M (map f ks))) ⊎ ((a : A) × Memᴰ a ks × (AtLeast M x (combined M u (f a)) → ⊥))
  split x u f [] = inl (subst (AtLeast M x) (sym (laws.combine_comm u (None) ∙ laws.combine_none u)) (at_least_none M laws x))
  split x u f (a ∷ ks) = go (reaches x (combined M u (f a))) (split x u f ks)
    where
      go : Dec (AtLeast M x (combined M u (f a))) → AtLeast M x (combined M u (best_of M (map f ks))) ⊎ ((b : _) × Memᴰ b ks × (AtLeast M x (combined M u (f b)) → ⊥)) → AtLeast M x (combined M u (better_of M (f a) (best_of M (map f ks)))) ⊎ ((b : _) × Memᴰ b (a ∷ ks) × (AtLeast M x (combined M u (f b)) → ⊥))
      go (yes h) (inl rest) = inl (subst (AtLeast M x) (sym (laws.distributes u (f a) (best_of M (map f ks)))) (better_least M laws x _ _ h rest))
      go (yes h) (inr r) = inr (r.0, Memᴰ.tail r.1, r.2)
      go (no n) r = inr (a, Memᴰ.head refl, n)

module _ {S C : Type 0} (M : Meaning S) (laws : Laws M) where
  -- the new weights of some premises take a context past x and the old ones do not: then one premise does, in a narrower context
  narrow : (x : Option S) (new old : Table C S) (w : Option S) (ps : List C) (v : Option S) → (AtLeast M x (combined M v (product M w (map new ps))) → ⊥) → AtLeast M x (combined M v (product M w (map old ps))) → (q : C) × (u : Option S) × AtLeast M v u × (AtLeast M x (combined M u (new q)) → ⊥) × AtLeast M x (combined M u (old q))
  narrow x new old w [] v over under = absurd (over under)
  narrow x new old w (p ∷ ps) v over under = go (reaches M laws x (combined M v (combined M (old p) (product M w (map new ps))))) (λ o u. narrow x new old w ps (combined M v (old p)) o u)
    where
      turn : (a : Option S) → combined M v (combined M a (product M w (map new ps))) ≡ combined M (combined M v (product M w (map new ps))) a
      turn a = ap (combined M v) (laws.combine_comm a _) ∙ regroup M laws v _ a

      go : Dec (AtLeast M x (combined M v (combined M (old p) (product M w (map new ps))))) → ((AtLeast M x (combined M (combined M v (old p)) (product M w (map new ps))) → ⊥) → AtLeast M x (combined M (combined M v (old p)) (product M w (map old ps))) → (q : C) × (u : Option S) × AtLeast M (combined M v (old p)) u × (AtLeast M x (combined M u (new q)) → ⊥) × AtLeast M x (combined M u (old q))) → (q : C) × (u : Option S) × AtLeast M v u × (AtLeast M x (combined M u (new q)) → ⊥) × AtLeast M x (combined M u (old q))
      go (yes h) below = (p, combined M v (product M w (map new ps)), combine_below M laws v _, (λ k. over (subst (AtLeast M x) (sym (turn (new p))) k)), subst (AtLeast M x) (turn (old p)) h)
      go (no n) below =
          let r = below (λ k. n (subst (AtLeast M x) (sym (regroup M laws v (old p) _)) k)) (subst (AtLeast M x) (regroup M laws v (old p) _) under) in
          (r.0, r.1, at_least_trans M laws _ _ _ (combine_below M laws v (old p)) r.2, r.3, r.4)

module _ {S C : Type 0} (M : Meaning S) (laws : Laws M) (y : System C S) (x : Option S) where
  -- in the context u the round after j takes p past x, and the rounds up to j do not
  abbrev pub Over : Option S → ℕ → C → Type 0
  Over u j p = (AtLeast M x (combined M u (after M y (suc j) p)) → ⊥) × AtLeast M x (combined M u (after M y j p))

  pub fed_within : (u : Option S) (j : ℕ) (p : C) → Over u (suc j) p → (q : C) × (v : Option S) × AtLeast M u v × Over v j q
  fed_within u j p over = go (split M laws x u (weighs M (after M y (suc j))) (y p))
    where
      go : AtLeast M x (combined M u (round M y (after M y (suc j)) p)) ⊎ ((a : Candidate C S) × Memᴰ a (y p) × (AtLeast M x (combined M u (weighs M (after M y (suc j)) a)) → ⊥)) → (q : C) × (v : Option S) × AtLeast M u v × Over v j q
      go (inl h) = absurd (over.0 h)
      go (inr r) =
          let before : AtLeast M x (combined M u (weighs M (after M y j) r.0)) = at_least_trans M laws _ _ _ over.1 (combine_mono M laws u _ _ (best_upper M laws _ (Memᴰ.map (weighs M (after M y j)) r.1))) in
          let f = narrow M laws x (after M y (suc j)) (after M y j) r.0.weight r.0.premises u r.2 before in
          (f.0, f.1, f.2, (f.3, f.4))

  pub data Spine : ℕ → Option S → List C → Type 0 where
    tip : {u : Option S} {p : C} → Over u zero p → Spine zero u (p ∷ [])
    grown : {j : ℕ} {u v : Option S} {p q : C} {cs : List C} → Over u (suc j) p → AtLeast M u v → Spine j v (q ∷ cs) → Spine (suc j) u (p ∷ q ∷ cs)

  pub spine : (j : ℕ) (u : Option S) (p : C) → Over u j p → (cs : List C) × Spine j u (p ∷ cs)
  spine zero u p over = ([], tip over)
  spine (suc j) u p over =
      let f = fed_within u j p over in
      let r = spine j f.1 f.0 f.3 in
      (f.0 ∷ r.0, grown over f.2 r.1)

  over_of : {j : ℕ} {u : Option S} {p : C} {cs : List C} → Spine j u (p ∷ cs) → Over u j p
  over_of (tip o) = o
  over_of (grown o up rest) = o

  -- a cell further down was taken past x by an earlier round, in a narrower context
  deeper : {j : ℕ} {u : Option S} {p : C} {cs : List C} → Spine j u (p ∷ cs) → {d : C} → Memᴰ d cs → (i : ℕ) × (i < j) × (v : Option S) × AtLeast M u v × Over v i d
  deeper (tip o) m = elim m [ ]
  deeper (grown {j = j} {u = u} {v = v} {q = q} o up rest) (Memᴰ.head e) = (j, omega arith, v, up, subst (Over v j) (sym e) (over_of rest))
  deeper (grown {j = j} o up rest) (Memᴰ.tail m) =
      let r = deeper rest m in (r.0, omega (arith, r.1), r.2, at_least_trans M laws _ _ _ up r.3, r.4)

  pub spine_fresh : {j : ℕ} {u : Option S} {p : C} {cs : List C} → Spine j u (p ∷ cs) → Memᴰ p cs → ⊥
  spine_fresh {j} {u} {p} sp m =
      let r = deeper sp m in
      r.4.0 (at_least_trans M laws _ _ _ (over_of sp).1 (combine_mono_both M laws _ _ _ _ r.3 (later M laws y (suc r.0) j r.1 p)))

  pub spine_distinct : {j : ℕ} {u : Option S} {cs : List C} → Spine j u cs → Distinct cs
  spine_distinct (tip o) = one_more (λ m. elim m [ ]) nothing
  spine_distinct (grown o up rest) = one_more (spine_fresh (grown o up rest)) (spine_distinct rest)

  settles : (n j : ℕ) (u : Option S) (p : C) → suc j ≤ n → Over u j p → Settled M laws y n p
  settles n j u p h over e =
      let low : AtLeast M (None) (after M y (suc j) p) = subst (λ z. AtLeast M z (after M y (suc j) p)) e (later M laws y (suc j) n h p) in
      let gone : after M y (suc j) p ≡ None = at_least_antisym M laws _ _ (at_least_none M laws _) low in
      over.0 (subst (AtLeast M x) (sym (ap (combined M u) gone ∙ laws.combine_comm u (None) ∙ laws.combine_none u)) (at_least_none M laws x))

  pub spine_settled : (n : ℕ) {j : ℕ} {u : Option S} {cs : List C} → j < n → Spine j u cs → {d : C} → Memᴰ d cs → Settled M laws y n d
  spine_settled n below (tip {u = u} {p = p} o) (Memᴰ.head e) = λ k. settles n zero u p below o (ap (after M y n) (sym e) ∙ k)
  spine_settled n below (tip o) (Memᴰ.tail m) = elim m [ ]
  spine_settled n below (grown {j = j} {u = u} {p = p} o up rest) (Memᴰ.head e) = λ k. settles n (suc j) u p below o (ap (after M y n) (sym e) ∙ k)
  spine_settled n below (grown o up rest) (Memᴰ.tail m) = spine_settled n (omega arith) rest m

  pub spine_length : {j : ℕ} {u : Option S} {cs : List C} → Spine j u cs → length cs ≡ suc j
  spine_length (tip o) = refl
  spine_length (grown o up rest) = ap suc (spine_length rest)

-- a round that changes something has at most as many before it as there are memberships settled, whether or not better-of chooses
pub bounded : {S C : Type 0} (M : Meaning S) (laws : Laws M) (y : System C S) (n k : ℕ) (live : List C) → ((c : C) → Settled M laws y n c → Memᴰ c live) → k < n → (c : C) → Changed M laws y k c → suc k ≤ length live
bounded M laws y n k live covers below c changed =
    let x = after M y k c in
    let plain : (w : _) → combined M (full_weight M) w ≡ w = laws.combine_full in
    let over : Over M laws y x (full_weight M) k c = ((λ h. changed (at_least_antisym M laws _ _ (after_grows M laws y k c) (subst (AtLeast M x) (plain _) h))), subst (AtLeast M x) (sym (plain _)) (at_least_refl M laws x)) in
    let r = spine M laws y x k (full_weight M) c over in
    let fit = distinct_fit (spine_distinct M laws y x r.1) live (λ d m. covers d (spine_settled M laws y x n below r.1 m)) in
    omega (arith, fit, spine_length M laws y x r.1)
