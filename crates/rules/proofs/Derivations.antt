-- No derivation weighs more than a closed table has, and an earned weight is its candidate's in the final table.
use Rattle.std.proofs.Common.{◌≡◌, ℕ, suc, List, [], ◌∷◌, map, Option, sym, refl, subst, arith}
use mathlib.Core.List.{Memᴰ}
use mathlib.Core.List.Memᴰ
use Rattle.scale.specs.Scale.{Meaning, Laws, AtLeast}
use Rattle.rules.specs.System.{Candidate, System, Table, product, weighs, after, Closed}
use Rattle.rules.proofs.Order.{at_least_refl, at_least_trans, at_least_antisym, best_upper, combine_mono_both}
use Rattle.rules.proofs.Rounds.{later, product_mono}
use Rattle.rules.proofs.Reasons.{Earned}

pub record Conclusion (C S : Type 0) : Type 0 where
  pub cell : C
  pub weight : Option S

module _ {S C : Type 0} (M : Meaning S) (laws : Laws M) (y : System C S) where
  -- a derivation, newest step first: each step cites conclusions of steps before it
  pub data Derived : List (Conclusion C S) → Type 0 where
    start : Derived []
    step : {before : List (Conclusion C S)} (c : C) (way : Candidate C S) → Memᴰ way (y c) → (cited : List (Conclusion C S)) → ((k : Conclusion C S) → Memᴰ k cited → Memᴰ k before) → map (λ k. k.cell) cited ≡ way.premises → Derived before → Derived (record { cell = c; weight = product M way.weight (map (λ k. k.weight) cited) } ∷ before)

  cited_below : (t : Table C S) (w : Option S) (cited : List (Conclusion C S)) → ((k : Conclusion C S) → Memᴰ k cited → AtLeast M (t k.cell) k.weight) → AtLeast M (product M w (map t (map (λ k. k.cell) cited))) (product M w (map (λ k. k.weight) cited))
  cited_below t w [] h = at_least_refl M laws w
  cited_below t w (k ∷ ks) h = combine_mono_both M laws _ _ _ _ (h k (Memᴰ.head refl)) (cited_below t w ks (λ k2 m. h k2 (Memᴰ.tail m)))

  pub derived_below : (t : Table C S) → Closed M y t → {ds : List (Conclusion C S)} → Derived ds → (k : Conclusion C S) → Memᴰ k ds → AtLeast M (t k.cell) k.weight
  derived_below t closed start k m = elim m [ ]
  derived_below t closed (step {before = before} c way listed cited earlier fits rest) k (Memᴰ.head e) =
      let below : AtLeast M (product M way.weight (map t (map (λ k. k.cell) cited))) (product M way.weight (map (λ k. k.weight) cited)) = cited_below t way.weight cited (λ k2 m. derived_below t closed rest k2 (earlier k2 m)) in
      let named : AtLeast M (weighs M t way) (product M way.weight (map (λ k. k.weight) cited)) = subst (λ ps. AtLeast M (product M way.weight (map t ps)) (product M way.weight (map (λ k. k.weight) cited))) fits below in
      let top : AtLeast M (t c) (weighs M t way) = at_least_trans M laws _ _ _ (closed c) (best_upper M laws _ (Memᴰ.map (weighs M t) listed)) in
      subst (λ k3. AtLeast M (t k3.cell) k3.weight) (sym e) (at_least_trans M laws _ _ _ top named)
  derived_below t closed (step c way listed cited earlier fits rest) k (Memᴰ.tail m) = derived_below t closed rest k m

  -- in the final table the earned weight is what its candidate weighs there
  pub earned_holds : (n : ℕ) → ((c : C) → after M y (suc n) c ≡ after M y n c) → (c : C) (e : Earned M laws y n c) → weighs M (after M y n) e.way ≡ after M y n c
  earned_holds n still c e =
      at_least_antisym M laws _ _
      (subst (AtLeast M (weighs M (after M y n) e.way)) e.gave (product_mono M laws y (after M y n) (after M y e.before) (later M laws y e.before n (omega arith)) e.way.weight e.way.premises))
      (subst (λ x. AtLeast M x (weighs M (after M y n) e.way)) (still c) (best_upper M laws _ (Memᴰ.map (weighs M (after M y n)) e.listed)))
