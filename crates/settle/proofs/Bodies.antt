-- What the loops offer to a row are the ways that the credential's body gives.
use Rattle.std.proofs.Common.{◌≡◌, ℕ, zero, suc, ◌+◌, ◌<◌, ◌≤◌, Bool, true, false, cond, ◌||◌, List, [], ◌∷◌, map, Some, None, filter, Option, sym, refl, ap, ◌∙◌, subst, ap₂, add-one, arith}
use Rattle.std.proofs.lemmas.Bool.{lt-ltb}
use Rattle.std.specs.Borrow.{Bor}
use Rattle.scale.specs.Scale.{Meaning, Laws, combined, full_weight, AtLeast}
use Rattle.scale.specs.Order.{combine_full_right}
use Rattle.rules.specs.Ways.{belongs, role_of, Way, way, below}
use Rattle.rules.specs.Tables.{because, weight_by}
use Rattle.rules.specs.Cells.{number}
use Rattle.rules.proofs.Order.{at_least_none}
use Rattle.settle.specs.Entries.{Entry, taken, offered, weight_at, in_row, IsRow, shown, Front}
use Rattle.settle.specs.Moves.{flag_of, worth, gives}
use Rattle.settle.proofs.Bridge.{taken_if, offered_more, taken_below}
use Rattle.settle.proofs.Rows.{front_same, front_then, front_as}
use Rattle.credential.specs.declared.Role.{Role}
use Rattle.credential.specs.declared.RoleName.{RoleName}
use Rattle.credential.specs.declared.Body.TheVariants.{Delegation, Link, Intersection}

module _ {S : Type 0} (m : Meaning S) (rs : List Role) (E : ℕ) (former : List (Option S)) (changed : Option (List Bool)) (place : ℕ) where
  module _ (b : Role) (t : RoleName) where
    -- the way through a middle
    abbrev pub link_way : ℕ → ℕ → Way S
    link_way x k = way place k (full_weight m) (belongs b k ∷ belongs (role_of k t) x ∷ [])

    -- what the first n middles give
    abbrev pub Through : ℕ → (ℕ → Entry S) → (ℕ → Entry S) → Type 0
    Through n s a = Front E (λ x. offered m (shown rs E former) (filter (worth rs changed) (map (link_way x) (below n)))) s a

module _ {S : Type 0} (m : Meaning S) (laws : Laws m) (rs : List Role) (E : ℕ) (former : List (Option S)) (changed : Option (List Bool)) where
  -- what is read in the row of a role is what the list shows
  pub read_in : (b : Role) (head : Option ℕ) (row : Option (Bor (List (Option S)))) → head ≡ number rs b → IsRow E (weight_at former E head) row → (x : ℕ) → x < E → in_row row x ≡ shown rs E former (belongs b x)
  read_in b head row is r x h =
      r.same x h
      ∙ ap (λ (n : Option ℕ). weight_at former E n x) is
      ∙ ap (λ (v : Bool). cond v (weight_at former E (number rs b) x) None) (sym (lt-ltb x E h))

  module _ (place : ℕ) where
    pub by_delegation : (b : Role) (v : S) (w : ℕ → Option S) (s a : ℕ → Entry S) → v ≡ m.full → flag_of changed (number rs b) ≡ true → ((x : ℕ) → x < E → w x ≡ shown rs E former (belongs b x)) → Front E (λ x. taken m (combined m (Some v) (w x)) (because place 0)) s a → Front E (gives m rs E former changed place (Delegation b)) s a
    by_delegation b v w s a full moved reads q =
        front_as E _ _ s a (λ x h e.
        ap (λ (u : Option S). taken m u (because place 0) e) (ap₂ (λ (u : S). combined m (Some u)) full (reads x h) ∙ laws.combine_comm (full_weight m) (shown rs E former (belongs b x)))
        ∙ ap (λ (u : Bool). offered m (shown rs E former) (cond u (way place 0 (full_weight m) (belongs b x ∷ []) ∷ []) []) e) (sym moved)) q

    pub by_intersection : (b d : Role) (v w : ℕ → Option S) (s a : ℕ → Entry S) → (flag_of changed (number rs b) || flag_of changed (number rs d)) ≡ true → ((x : ℕ) → x < E → v x ≡ shown rs E former (belongs b x)) → ((x : ℕ) → x < E → w x ≡ shown rs E former (belongs d x)) → Front E (λ x. taken m (combined m (v x) (w x)) (because place 0)) s a → Front E (gives m rs E former changed place (Intersection b d)) s a
    by_intersection b d v w s a moved reads reads2 q =
        front_as E _ _ s a (λ x h e.
        ap (λ (u : Option S). taken m u (because place 0) e) (ap₂ (combined m) (reads x h) (reads2 x h ∙ sym (combine_full_right m laws (shown rs E former (belongs d x)))))
        ∙ ap (λ (u : Bool). offered m (shown rs E former) (cond u (way place 0 (full_weight m) (belongs b x ∷ belongs d x ∷ []) ∷ []) []) e) (sym moved)) q

    module _ (b : Role) (t : RoleName) where
      link_more : (v : Bool) (n : ℕ) (s a c : ℕ → Entry S) → v ≡ (flag_of changed (number rs b) || flag_of changed (number rs (role_of n t))) → Through m rs E former changed place b t n s a → Front E (λ x. taken_if m v (combined m (shown rs E former (belongs b n)) (shown rs E former (belongs (role_of n t) x))) (because place n)) a c → Through m rs E former changed place b t (n + 1) s c
      link_more v n s a c is before one =
          rw add-one (front_as E _ _ s c (λ x l e. one_more x e) (front_then E _ _ s a c before one))
        where
          one_more : (x : ℕ) (e : Entry S) → taken_if m v (combined m (shown rs E former (belongs b n)) (shown rs E former (belongs (role_of n t) x))) (because place n) (offered m (shown rs E former) (filter (worth rs changed) (map (link_way m rs E former changed place b t x) (below n))) e) ≡ offered m (shown rs E former) (filter (worth rs changed) (map (link_way m rs E former changed place b t x) (below (suc n)))) e
          one_more x e =
              ap₂ (λ (u : Bool) (w : Option S). taken_if m u (combined m (shown rs E former (belongs b n)) w) (because place n) (offered m (shown rs E former) (filter (worth rs changed) (map (link_way m rs E former changed place b t x) (below n))) e)) is (sym (combine_full_right m laws (shown rs E former (belongs (role_of n t) x))))
              ∙ sym (offered_more m laws (shown rs E former) (worth rs changed) (link_way m rs E former changed place b t x) n e)

      pub link_offered : (n : ℕ) (near : Option S) (w : ℕ → Option S) (s a c : ℕ → Entry S) → (flag_of changed (number rs b) || flag_of changed (number rs (role_of n t))) ≡ true → near ≡ shown rs E former (belongs b n) → ((x : ℕ) → x < E → w x ≡ shown rs E former (belongs (role_of n t) x)) → Through m rs E former changed place b t n s a → Front E (λ x. taken m (combined m near (w x)) (because place n)) a c → Through m rs E former changed place b t (n + 1) s c
      link_offered n near w s a c moved here reads before one =
          link_more true n s a c (sym moved) before (front_as E _ _ a c (λ x l e. ap (λ (u : Option S). taken m u (because place n) e) (ap₂ (combined m) here (reads x l))) one)

      pub link_skipped : (n : ℕ) (s a : ℕ → Entry S) → (flag_of changed (number rs b) || flag_of changed (number rs (role_of n t))) ≡ false → Through m rs E former changed place b t n s a → Through m rs E former changed place b t (n + 1) s a
      link_skipped n s a still before = link_more false n s a a (sym still) before (front_same E _ a (λ x l e. refl))

      -- nothing, where the first role has no members
      pub no_link : (s : ℕ → Entry S) → ((k : ℕ) → k < E → shown rs E former (belongs b k) ≡ None) → Front E (gives m rs E former changed place (Link b t)) s s
      no_link s none = front_same E _ s (λ x l e. nothing E (omega arith) x e)
        where
          none_offered : (v : Bool) (w : Option S) (k : ℕ) (e : Entry S) → w ≡ None → taken_if m v w (because place k) e ≡ e
          none_offered true w k e h = taken_below m laws (shown rs E former) w (because place k) e (subst (λ (u : Option S). AtLeast m e.weight u) (sym h) (at_least_none m laws e.weight))
          none_offered false w k e h = refl

          nothing : (n : ℕ) → n ≤ E → (x : ℕ) (e : Entry S) → offered m (shown rs E former) (filter (worth rs changed) (map (link_way m rs E former changed place b t x) (below n))) e ≡ e
          nothing zero l x e = refl
          nothing (suc n) l x e =
              offered_more m laws (shown rs E former) (worth rs changed) (link_way m rs E former changed place b t x) n e
              ∙ none_offered (worth rs changed (link_way m rs E former changed place b t x n)) (weight_by m (shown rs E former) (link_way m rs E former changed place b t x n)) n _ (ap (λ (u : Option S). combined m u (combined m (shown rs E former (belongs (role_of n t) x)) (full_weight m))) (none n (omega arith)))
              ∙ nothing n (omega arith) x e
