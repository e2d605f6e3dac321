-- Rows of entries, changed one by one or one after the other.
use Rattle.std.proofs.Common.{◌≡◌, ℕ, ◌+◌, ◌-◌, ◌*◌, ◌<◌, ◌≤◌, true, false, ◌⊎◌, List, [], ◌∷◌, ◌++◌, length, get_or, take, drop, Some, None, Option, sym, refl, ap, ◌∙◌, subst, ap₂, ⊎_elim, inl, inr, mul-le-mul_right, suc-mul, arith, length-take, get_or-drop, get_or-take}
use Rattle.std.proofs.lemmas.Bool.{cases_lt}
use Rattle.std.proofs.lemmas.List.{get_or_append_left, get_or-append_right}
use Rattle.credential.specs.declared.Role.{Role}
use Rattle.credential.specs.Same.{same_role}
use Rattle.rules.specs.declared.memberships.Reason.{Reason}
use Rattle.rules.specs.Tables.{no_reason}
use Rattle.rules.specs.Cells.{number}
use Rattle.heads.proofs.Roles.{which, numbered_first, numbered_later, one_less}
use Rattle.settle.specs.Entries.{Entry, entry, entry_at, Held, Put, Front, Row, RowOf}

module _ {X : Type 0} where
  pub front_same : (n : ℕ) (f : ℕ → X → X) (s : ℕ → X) → ((x : ℕ) → x < n → (e : X) → f x e ≡ e) → Front n f s s
  front_same n f s h = record { within = λ x l. sym (h x l (s x)); outside = λ j l. refl }

  pub front_more : (n : ℕ) (f : ℕ → X → X) (s a b : ℕ → X) → Front n f s a → Put n (f n) a b → Front (n + 1) f s b
  front_more n f s a b r p = record {
    within = λ x h. ⊎_elim
        (λ (k : x < n). p.elsewhere x (λ e. absurd (omega (arith, e))) ∙ r.within x k)
        (λ k. let e : x ≡ n = omega arith in
        subst (λ (z : ℕ). b z ≡ f z (s z)) (sym e) (p.here ∙ ap (f n) (r.outside n (omega arith))))
        (cases_lt x n);
    outside = λ j h. p.elsewhere j (λ e. absurd (omega (arith, e))) ∙ r.outside j (omega arith);
  }

  pub front_then : (n : ℕ) (f g : ℕ → X → X) (s a b : ℕ → X) → Front n f s a → Front n g a b → Front n (λ x e. g x (f x e)) s b
  front_then n f g s a b p q = record {
    within = λ x h. q.within x h ∙ ap (g x) (p.within x h);
    outside = λ j h. q.outside j h ∙ p.outside j h;
  }

  pub front_as : (n : ℕ) (f g : ℕ → X → X) (s a : ℕ → X) → ((x : ℕ) → x < n → (e : X) → f x e ≡ g x e) → Front n f s a → Front n g s a
  front_as n f g s a h p = record { within = λ x k. p.within x k ∙ h x k (s x); outside = p.outside }

-- the k entries of a list from a on, with others in their place
module _ {X : Type 0} (xs ys : List X) (a k : ℕ) (d : X) (room : a + k ≤ length xs) (many : length ys ≡ k) where
  within_part : (x : ℕ) → x < k → get_or (take a xs ++ (ys ++ drop k (drop a xs))) (a + x) d ≡ get_or ys x d
  within_part x h =
      let long : length (take a xs) ≡ a = simp length-take (omega arith) in
      let at : a + x - a ≡ x = omega arith in
      get_or-append_right (take a xs) (ys ++ drop k (drop a xs)) a (a + x) d long (omega arith)
      ∙ ap (λ j. get_or (ys ++ drop k (drop a xs)) j d) at
      ∙ get_or_append_left ys (drop k (drop a xs)) d x (omega arith)

  outside_part : (j : ℕ) → ((x : ℕ) → x < k → j ≡ a + x → ⊥) → get_or (take a xs ++ (ys ++ drop k (drop a xs))) j d ≡ get_or xs j d
  outside_part j h = by (cases_lt j a) (cases_lt j (a + k))
    where
      long : length (take a xs) ≡ a
      long = simp length-take (omega arith)

      by : (j < a) ⊎ (a ≤ j) → (j < a + k) ⊎ (a + k ≤ j) → get_or (take a xs ++ (ys ++ drop k (drop a xs))) j d ≡ get_or xs j d
      by (inl l) r = get_or_append_left (take a xs) (ys ++ drop k (drop a xs)) d j (omega (arith, long)) ∙ get_or-take a xs j d l
      by (inr l) (inl r) = absurd (h (j - a) (omega arith) (omega arith))
      by (inr l) (inr r) =
          let at : a + (k + (j - a - k)) ≡ j = omega arith in
          get_or-append_right (take a xs) (ys ++ drop k (drop a xs)) a j d long l
          ∙ get_or-append_right ys (drop k (drop a xs)) k (j - a) d many (omega arith)
          ∙ get_or-drop k (drop a xs) (j - a - k) d
          ∙ get_or-drop a xs (k + (j - a - k)) d
          ∙ ap (λ i. get_or xs i d) at

-- a part of two lists is changed from its front on, and so a row of the whole
module _ {S : Type 0} (ws us : List (Option S)) (rs qs : List Reason) (h n k : ℕ) (is : k ≡ n) (room : h * n + n ≤ length ws) (room2 : h * n + n ≤ length rs) (many : length us ≡ n) (many2 : length qs ≡ n) (f : ℕ → Entry S → Entry S) (part : Front n f (entry_at (take k (drop (h * n) ws)) (take k (drop (h * n) rs))) (entry_at us qs)) where
  row_placed : Row (h * n) n f (entry_at ws rs) (entry_at (take (h * n) ws ++ (us ++ drop k (drop (h * n) ws))) (take (h * n) rs ++ (qs ++ drop k (drop (h * n) rs))))
  row_placed = record {
    within = λ x i.
        let l : x < k = omega arith in
        ap₂ (λ (w : Option S) (r : Reason). entry w r) (within_part ws us (h * n) k None (omega arith) (omega arith) x l) (within_part rs qs (h * n) k no_reason (omega arith) (omega arith) x l)
        ∙ part.within x i
        ∙ ap (f x) (ap₂ (λ (w : Option S) (r : Reason). entry w r) (get_or-take k (drop (h * n) ws) x None l ∙ get_or-drop (h * n) ws x None) (get_or-take k (drop (h * n) rs) x no_reason l ∙ get_or-drop (h * n) rs x no_reason));
    outside = λ j o. ap₂ (λ (w : Option S) (r : Reason). entry w r)
        (outside_part ws us (h * n) k None (omega arith) (omega arith) j (λ x l. o x (omega arith)))
        (outside_part rs qs (h * n) k no_reason (omega arith) (omega arith) j (λ x l. o x (omega arith)));
  }

  pub row_of_placed : (o : Option ℕ) → Some h ≡ o → RowOf o n f (entry_at ws rs) (entry_at (take (h * n) ws ++ (us ++ drop k (drop (h * n) ws))) (take (h * n) rs ++ (qs ++ drop k (drop (h * n) rs))))
  row_of_placed o e = subst (λ (i : Option ℕ). RowOf i n f (entry_at ws rs) (entry_at (take (h * n) ws ++ (us ++ drop k (drop (h * n) ws))) (take (h * n) rs ++ (qs ++ drop k (drop (h * n) rs))))) e row_placed

-- the rows of so many cells each
pub rows_within : (E n len : ℕ) → n * E ≤ len → (h : ℕ) → h < n → h * E + E ≤ len
rows_within E n len room h l = omega (arith, mul-le-mul_right E l, suc-mul h E, room)

pub number_below : (rs : List Role) (r : Role) (h : ℕ) → number rs r ≡ Some h → h < length rs
number_below [] r h e = cc
number_below (b ∷ rs) r h e = by (which b r) (number_below rs r)
  where
    by : ((b ≡ r) × (same_role b r ≡ true)) ⊎ ((b ≡ r → ⊥) × (same_role b r ≡ false)) → ((k : ℕ) → number rs r ≡ Some k → k < length rs) → h < length (b ∷ rs)
    by (inl p) again = let z : Some 0 ≡ Some h = sym (numbered_first b rs r p.1) ∙ e in let i : 0 ≡ h = cc in omega arith
    by (inr p) again = let k = one_less (number rs r) h (sym (numbered_later b rs r p.1) ∙ e) in omega (arith, again k.0 k.1, k.2)

-- the row of a head
pub held : (rs : List Role) (E len : ℕ) → len ≡ length rs * E → (r : Role) (o : Option ℕ) → o ≡ number rs r → Held len E o
held rs E len long r None e = tt
held rs E len long r (Some h) e = rows_within E (length rs) len (omega (arith, long)) h (number_below rs r h (sym e))
