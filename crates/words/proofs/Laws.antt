-- The parts of a text and the text that they join to.
use Rattle.std.proofs.Common.{◌≡◌, ℕ, Bool, true, false, cond, eqb, List, [], ◌∷◌, ◌++◌, refl, ap, ◌∙◌, append-nil}
use Rattle.std.specs.List.{onto_first, join_with_byte}
use Rattle.std.proofs.lemmas.Bool.{eq-eqb, ne_eqb, eqb-false}
use Rattle.std.proofs.lemmas.List.Splits.{slice_split-cons_yes, slice_split-cons_no, join_with_byte-slice_split}
use Rattle.words.specs.Split.{split, after, rejoin, Lacks, EachLacks, Splits}

module _ (sep : ℕ) where
  pub lacks_append : (v w : List ℕ) → Lacks sep v → Lacks sep w → Lacks sep (v ++ w)
  lacks_append [] w p q = q
  lacks_append (b ∷ v) w p q = (p.0, lacks_append v w p.1 q)

  pub split_front : (w l : List ℕ) → Lacks sep w → split sep (w ++ sep ∷ l) ≡ w ∷ split sep l
  split_front [] l h = slice_split-cons_yes (λ b. eqb b sep) sep l (eq-eqb sep sep refl)
  split_front (b ∷ w) l h = slice_split-cons_no (λ b. eqb b sep) b (w ++ sep ∷ l) (ne_eqb b sep h.0) ∙ ap (onto_first b) (split_front w l h.1)

  pub split_one : (w : List ℕ) → Lacks sep w → split sep w ≡ w ∷ []
  split_one [] h = refl
  split_one (b ∷ w) h = slice_split-cons_no (λ b. eqb b sep) b w (ne_eqb b sep h.0) ∙ ap (onto_first b) (split_one w h.1)

  pub split_only : (w : List ℕ) (ws : List (List ℕ)) → EachLacks sep (w ∷ ws) → split sep (rejoin sep (w ∷ ws)) ≡ w ∷ ws
  split_only w [] h = ap (split sep) (append-nil w) ∙ split_one w h.0
  split_only w (v ∷ ws) h = split_front w (v ++ after sep ws) h.0 ∙ ap (λ l. w ∷ l) (split_only v ws h.1)

  rejoin_is : (ws : List (List ℕ)) → rejoin sep ws ≡ join_with_byte sep ws
  rejoin_is [] = refl
  rejoin_is (w ∷ []) = append-nil w
  rejoin_is (w ∷ v ∷ ws) = ap (λ l. w ++ sep ∷ l) (rejoin_is (v ∷ ws))

  pub rejoin_split : (l : List ℕ) → rejoin sep (split sep l) ≡ l
  rejoin_split l = rejoin_is (split sep l) ∙ join_with_byte-slice_split sep l

  pub parts_lack : (l : List ℕ) → EachLacks sep (split sep l)
  parts_lack [] = (tt, tt)
  parts_lack (b ∷ bs) = go (eqb b sep) refl (split sep bs) (parts_lack bs)
    where
      go : (t : Bool) → eqb b sep ≡ t → (ws : List (List ℕ)) → EachLacks sep ws → EachLacks sep (cond t ([] ∷ ws) (onto_first b ws))
      go true e ws h = (tt, h)
      go false e [] h = ((eqb-false b sep e, tt), tt)
      go false e (w ∷ ws) h = ((eqb-false b sep e, h.0), h.1)

pub laws : (sep : ℕ) → Splits sep
laws sep = record { whole = rejoin_split sep; parts = parts_lack sep; only = split_only sep }
