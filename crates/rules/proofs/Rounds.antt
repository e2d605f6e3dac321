use Rattle.std.proofs.Common.{◌≡◌, ℕ, zero, suc, ◌≤◌, List, [], ◌∷◌, map, length, None, Option, sym, refl, ap, ◌∙◌, subst, zero-le, arith}
use mathlib.Core.List.{Memᴰ}
use mathlib.Core.List.Memᴰ
use native.Mathlib.Decide.{le_ind}
use Rattle.scale.specs.Scale.{Meaning, Laws, AtLeast}
use Rattle.rules.specs.System.{System, Table, product, weighs, round, after, Closed}
use Rattle.rules.proofs.Order.{at_least_refl, at_least_trans, at_least_none, combine_mono_both, combine_below, combine_below_right, best_upper, best_least}

pub data Distinct {C : Type 0} : List C → Type 0 where
  nothing : Distinct []
  one_more : {c : C} {cs : List C} → (Memᴰ c cs → ⊥) → Distinct cs → Distinct (c ∷ cs)

module _ {S C : Type 0} (M : Meaning S) (laws : Laws M) (y : System C S) where
  abbrev pub Above : Table C S → Table C S → Type 0
  Above t u = (c : C) → AtLeast M (t c) (u c)

  pub product_mono : (t u : Table C S) → Above t u → (w : Option S) (ps : List C) → AtLeast M (product M w (map t ps)) (product M w (map u ps))
  product_mono t u h w [] = at_least_refl M laws w
  product_mono t u h w (p ∷ ps) = combine_mono_both M laws _ _ _ _ (h p) (product_mono t u h w ps)

  pub round_mono : (t u : Table C S) → Above t u → Above (round M y t) (round M y u)
  round_mono t u h c =
      best_least M laws _ _ (λ w m. let r = Memᴰ.of_map (weighs M u) (y c) m in
      let up : AtLeast M (round M y t c) (weighs M t r.0) = best_upper M laws _ (Memᴰ.map (weighs M t) r.1) in
      subst (AtLeast M (round M y t c)) r.2 (at_least_trans M laws _ _ _ up (product_mono t u h r.0.weight r.0.premises)))

  pub after_grows : (k : ℕ) → Above (after M y (suc k)) (after M y k)
  after_grows zero c = at_least_none M laws _
  after_grows (suc k) c = round_mono (after M y (suc k)) (after M y k) (after_grows k) c

  -- each round stays below every closed table
  pub after_least : (t : Table C S) → Closed M y t → (k : ℕ) → Above t (after M y k)
  after_least t closed zero c = at_least_none M laws (t c)
  after_least t closed (suc k) c =
      at_least_trans M laws _ _ _ (closed c) (round_mono t (after M y k) (after_least t closed k) c)

  -- the round after k changes an entry
  abbrev pub Changed : ℕ → C → Type 0
  Changed k c = after M y (suc k) c ≡ after M y k c → ⊥

  pub product_below : (t : Table C S) (w : Option S) (ps : List C) {p : C} → Memᴰ p ps → AtLeast M (t p) (product M w (map t ps))
  product_below t w [] m = elim m [ ]
  product_below t w (q ∷ ps) (Memᴰ.head e) = rw e (combine_below M laws (t q) _)
  product_below t w (q ∷ ps) (Memᴰ.tail m) =
      at_least_trans M laws _ _ _ (product_below t w ps m) (combine_below_right M laws (t q) _)

  pub later : (k j : ℕ) → k ≤ j → Above (after M y j) (after M y k)
  later k j h =
      le_ind (λ m. Above (after M y m) (after M y k)) (λ c. at_least_refl M laws _) (λ m _ up c. at_least_trans M laws _ _ _ (after_grows m c) (up c)) j h

  abbrev pub Settled : ℕ → C → Type 0
  Settled n c = after M y n c ≡ None → ⊥

-- distinct elements of a list are no more than it has
without : {C : Type 0} {c : C} (ds : List C) → Memᴰ c ds → List C
without (d ∷ ds) (Memᴰ.head e) = ds
without (d ∷ ds) (Memᴰ.tail m) = d ∷ without ds m
without [] m = elim m [ ]

without_length : {C : Type 0} {c : C} (ds : List C) (m : Memᴰ c ds) → suc (length (without ds m)) ≡ length ds
unfolding without
without_length (d ∷ ds) (Memᴰ.head e) = refl
without_length (d ∷ ds) (Memᴰ.tail m) = ap suc (without_length ds m)
without_length [] m = elim m [ ]

without_keeps : {C : Type 0} {c x : C} (ds : List C) (m : Memᴰ c ds) → (x ≡ c → ⊥) → Memᴰ x ds → Memᴰ x (without ds m)
unfolding without
without_keeps (d ∷ ds) (Memᴰ.head e) other (Memᴰ.head e2) = absurd (other (e2 ∙ sym e))
without_keeps (d ∷ ds) (Memᴰ.head e) other (Memᴰ.tail n) = n
without_keeps (d ∷ ds) (Memᴰ.tail m) other (Memᴰ.head e2) = Memᴰ.head e2
without_keeps (d ∷ ds) (Memᴰ.tail m) other (Memᴰ.tail n) = Memᴰ.tail (without_keeps ds m other n)
without_keeps [] m other n = elim m [ ]

pub distinct_fit : {C : Type 0} {cs : List C} → Distinct cs → (ds : List C) → ((c : C) → Memᴰ c cs → Memᴰ c ds) → length cs ≤ length ds
distinct_fit nothing ds h = zero-le
distinct_fit (one_more {c = c} {cs = cs} fresh rest) ds h =
    let m = h c (Memᴰ.head refl) in
    let below = distinct_fit rest (without ds m) (λ x n. without_keeps ds m (λ e. fresh (subst (λ z. Memᴰ z cs) e n)) (h x (Memᴰ.tail n))) in
    omega (arith, without_length ds m, below)
