-- What a credential gives its head's row, as what it gives each membership.
use Rattle.std.proofs.Common.{◌≡◌, ℕ, suc, ◌+◌, ◌*◌, Bool, true, false, cond, ◌⊎◌, List, [], ◌∷◌, ◌++◌, length, Some, None, filter, Option, sym, refl, ap, ◌∙◌, subst, inl, inr, append_assoc, append-nil, zero-add, arith}
use Rattle.scale.specs.Scale.{Meaning, Laws}
use Rattle.rules.specs.System.{Table}
use Rattle.rules.specs.declared.memberships.Membership.{Membership}
use Rattle.rules.specs.Ways.{belongs, Way, ways_by, ways_of, ways_from}
use Rattle.rules.specs.Cells.{number}
use Rattle.settle.specs.Entries.{Entry, offered, RowOf, Spread}
use Rattle.settle.proofs.Bridge.{kept_append}
use Rattle.heads.specs.Enrolled.{CredentialIn, AllIn}
use Rattle.heads.proofs.Roles.{which, same_number, rows_apart}
use Rattle.credential.specs.declared.Role.{Role}
use Rattle.credential.specs.Same.{Credential, same_role}

-- what holds of all credentials holds of one between others
pub known_between : (E : ℕ) (before after : List Credential) (c : Credential) → AllIn E (before ++ (c ∷ after)) → CredentialIn E c
known_between E [] after c h = h.0
known_between E (d ∷ before) after c h = known_between E before after c h.1

module _ {S : Type 0} (m : Meaning S) (laws : Laws m) (E : ℕ) where
  pub ways_end : (n : ℕ) (cs : List Credential) (c : Credential) (q : Membership) → ways_from m E n (cs ++ (c ∷ [])) q ≡ ways_from m E n cs q ++ ways_of m E (n + length cs) c q
  ways_end n [] c q = append-nil (ways_of m E n c q) ∙ ap (λ p. ways_of m E p c q) (omega arith)
  ways_end n (d ∷ cs) c q =
      ap (λ ys. ways_of m E n d q ++ ys) (ways_end (suc n) cs c q)
      ∙ sym (append_assoc (ways_of m E n d q) (ways_from m E (suc n) cs q) (ways_of m E (suc n + length cs) c q))
      ∙ ap (λ p. (ways_of m E n d q ++ ways_from m E (suc n) cs q) ++ ways_of m E p c q) (omega arith)

  module _ (rs : List Role) (t : Table Membership S) (pass : Way S → Bool) where
    pub spread_one : (p : ℕ) (c : Credential) (a b : ℕ → Entry S) → RowOf (number rs c.head) E (λ x. offered m t (filter pass (ways_by m E p c.body x))) a b → Spread rs E (λ q. offered m t (filter pass (ways_of m E p c q))) a b
    spread_one p c a b row r h x e l = by (number rs c.head) refl row (which c.head r)
      where
        mine : (v : Bool) → same_role c.head r ≡ v → ways_of m E p c (belongs r x) ≡ cond v (ways_by m E p c.body x) []
        mine v s = ap (λ (w : Bool). cond w (ways_by m E p c.body x) []) s

        by : (n : Option ℕ) → number rs c.head ≡ n → RowOf n E (λ x. offered m t (filter pass (ways_by m E p c.body x))) a b → ((c.head ≡ r) × (same_role c.head r ≡ true)) ⊎ ((c.head ≡ r → ⊥) × (same_role c.head r ≡ false)) → b (h * E + x) ≡ offered m t (filter pass (ways_of m E p c (belongs r x))) (a (h * E + x))
        by None k row (inl s) = let z : None ≡ Some h = sym k ∙ ap (number rs) s.0 ∙ e in cc
        by None k row (inr s) = row (h * E + x) ∙ ap (λ ys. offered m t (filter pass ys) (a (h * E + x))) (sym (mine false s.1))
        by (Some to) k row (inl s) =
            let z : Some to ≡ Some h = sym k ∙ ap (number rs) s.0 ∙ e in
            let same : to ≡ h = cc in
            subst (λ (z : ℕ). b (z * E + x) ≡ offered m t (filter pass (ways_by m E p c.body x)) (a (z * E + x))) same (row.within x l)
            ∙ ap (λ ys. offered m t (filter pass ys) (a (h * E + x))) (sym (mine true s.1))
        by (Some to) k row (inr s) =
            let apart : h ≡ to → ⊥ = λ z. s.0 (same_number rs c.head r h (k ∙ ap Some (sym z)) e) in
            row.outside (h * E + x) (λ y ly z. rows_apart E h to x y apart l ly z)
            ∙ ap (λ ys. offered m t (filter pass ys) (a (h * E + x))) (sym (mine false s.1))

    -- one credential more
    pub spread_more : (cs : List Credential) (c : Credential) (s a b : ℕ → Entry S) → Spread rs E (λ q. offered m t (filter pass (ways_from m E 0 cs q))) s a → RowOf (number rs c.head) E (λ x. offered m t (filter pass (ways_by m E (length cs) c.body x))) a b → Spread rs E (λ q. offered m t (filter pass (ways_from m E 0 (cs ++ (c ∷ [])) q))) s b
    spread_more cs c s a b before row r h x e l =
        let q = belongs r x in
        spread_one (length cs) c a b row r h x e l
        ∙ ap (offered m t (filter pass (ways_of m E (length cs) c q))) (before r h x e l)
        ∙ sym (kept_append m laws t pass (ways_from m E 0 cs q) (ways_of m E (length cs) c q) (s (h * E + x)))
        ∙ ap (λ ys. offered m t (filter pass ys) (s (h * E + x))) (sym (ways_end 0 cs c q ∙ ap (λ n. ways_from m E 0 cs q ++ ways_of m E n c q) (zero-add (length cs))))
