-- The flags of one row more.
use Rattle.std.proofs.Common.{◌≡◌, ℕ, ◌+◌, ◌*◌, ◌<◌, ◌≤◌, Bool, true, false, ◌||◌, ◌⊎◌, List, length, get_or, set, take, drop, None, Option, sym, ap, ◌∙◌, subst, ap₂, inl, inr, zero-add, arith, get_or-set_other, get_or-set_same, length-take, length-drop, get_or-take, get_or-drop}
use Rattle.std.proofs.lemmas.Bool.{cases_eq}
use Rattle.scale.specs.Scale.{Meaning, AtLeast}
use Rattle.settle.specs.Moves.{RowChanged, AnySet, Noted}

module _ (changed : List Bool) (n : ℕ) (v : Bool) (room : n < length changed) where
  here : get_or (set changed n v) n false ≡ v
  here = get_or-set_same changed n v false room

  earlier : (h : ℕ) → (h ≡ n → ⊥) → get_or (set changed n v) h false ≡ get_or changed h false
  earlier h o = get_or-set_other changed n h v false o

any_more : (changed : List Bool) (n : ℕ) (any v : Bool) → n < length changed → AnySet changed n any → AnySet (set changed n v) (n + 1) (any || v)
any_more changed n true v room (h, l, e) = (h, omega arith, earlier changed n v room h (λ z. absurd (omega (arith, z))) ∙ e)
any_more changed n false true room a = (n, omega arith, here changed n true room)
any_more changed n false false room a = λ h l. by h l (cases_eq h n)
  where
    by : (h : ℕ) → h < n + 1 → (h ≡ n) ⊎ (h ≡ n → ⊥) → get_or (set changed n false) h false ≡ false
    by h l (inl e) = subst (λ (j : ℕ). get_or (set changed n false) j false ≡ false) (sym e) (here changed n false room)
    by h l (inr o) = earlier changed n false room h o ∙ a h (omega (arith, o))

module _ {S : Type 0} (m : Meaning S) (E n : ℕ) (ws vs : List (Option S)) (changed : List Bool) (any v : Bool) where
  pub note_more : n < length changed → Noted m E n ws vs changed any → RowChanged m ws vs (n * E) E v → Noted m E (n + 1) ws vs (set changed n v) (any || v)
  note_more room noted row = record { rows = λ h l. by h l (cases_eq h n); some = any_more changed n any v room noted.some }
    where
      by : (h : ℕ) → h < n + 1 → (h ≡ n) ⊎ (h ≡ n → ⊥) → RowChanged m ws vs (h * E) E (get_or (set changed n v) h false)
      by h l (inl e) = subst (λ (j : ℕ). RowChanged m ws vs (j * E) E (get_or (set changed n v) j false)) (sym e) (subst (RowChanged m ws vs (n * E) E) (sym (here changed n v room)) row)
      by h l (inr o) = subst (RowChanged m ws vs (h * E) E) (sym (earlier changed n v room h o)) (noted.rows h (omega (arith, o)))

-- a row by itself, and in its place
module _ {S : Type 0} (m : Meaning S) (ws vs : List (Option S)) (a n k : ℕ) (many : k ≡ n) (room : a + n ≤ length ws) where
  at_part : (xs : List (Option S)) (x : ℕ) → x < n → get_or (take k (drop a xs)) (0 + x) None ≡ get_or xs (a + x) None
  at_part xs x h = ap (λ j. get_or (take k (drop a xs)) j None) (zero-add x) ∙ get_or-take k (drop a xs) x None (omega arith) ∙ get_or-drop a xs x None

  covers : (x : ℕ) → x < n → AtLeast m (get_or (take k (drop a ws)) (0 + x) None) (get_or (take k (drop a vs)) (0 + x) None) ≡ AtLeast m (get_or ws (a + x) None) (get_or vs (a + x) None)
  covers x h = ap₂ (λ (v w : Option S). AtLeast m v w) (at_part ws x h) (at_part vs x h)

  long : length (take k (drop a ws)) ≡ n
  long = simp (length-take, length-drop) (omega arith)

  pub row_changed_part : (v : Bool) → RowChanged m (take k (drop a ws)) (take k (drop a vs)) 0 (length (take k (drop a ws))) v → RowChanged m ws vs a n v
  row_changed_part true (x, l, short) = let h : x < n = omega (arith, long) in (x, h, λ over. short (subst (λ (P : Type 0). P) (sym (covers x h)) over))
  row_changed_part false all = λ x h. subst (λ (P : Type 0). P) (covers x h) (all x (omega (arith, long)))
