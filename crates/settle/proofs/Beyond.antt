-- A list of the weights after some rounds shows that table whole.
use Rattle.std.proofs.Common.{◌≡◌, ℕ, zero, suc, ◌+◌, ◌*◌, ◌<◌, ◌≤◌, Bool, true, false, cond, ◌⊎◌, List, [], ◌∷◌, map, get_or, Some, None, Option, sym, refl, ap, ◌∙◌, subst, ap₂, inl, inr, arith}
use mathlib.Core.Path.{fun_ext}
use Rattle.std.specs.List.{AllByRecursion}
use Rattle.std.proofs.ByRecursion.{All-append}
use Rattle.std.proofs.lemmas.List.{get_or-map}
use Rattle.std.proofs.lemmas.Bool.{lt-ltb, le-ltb, ne_eqb, cases_lt}
use Rattle.scale.specs.Scale.{Meaning, Laws, better_of, combined, full_weight}
use Rattle.scale.specs.Order.{combine_none_right}
use Rattle.rules.specs.System.{Table, weighs}
use Rattle.scale.specs.Best.{best_of}
use Rattle.rules.specs.declared.memberships.Membership.{Membership}
use Rattle.rules.specs.Ways.{belongs, role_of, Way, way, below, ways_by, ways_of, ways_from, ways}
use Rattle.rules.specs.Tables.{candidate, weight_by, table}
use Rattle.rules.specs.Cells.{heads, number, cells, weights_after}
use Rattle.heads.specs.Enrolled.{BodyIn, CredentialIn, AllIn}
use Rattle.settle.specs.Entries.{weight_at, shown}
use Rattle.heads.proofs.Distinct.{no_ways}
use Rattle.heads.proofs.Cells.{cell_of}
use Rattle.credential.specs.declared.Role.{Role}
use Rattle.credential.specs.declared.Record.{Record}
use Rattle.credential.specs.declared.Body.{Body}
use Rattle.credential.specs.declared.Body.TheVariants.{Member, Delegation, Link, Intersection}
use Rattle.credential.specs.Same.{Credential, same_role}

module _ {S : Type 0} (m : Meaning S) (laws : Laws m) (E : ℕ) where
  module _ (t : Table Membership S) (x : ℕ) (out : E ≤ x) (none : (r : Role) → t (belongs r x) ≡ None) where
    abbrev Nothing : List (Way S) → Type 0
    Nothing ys = AllByRecursion (λ y. weight_by m t y ≡ None) ys

    through_none : (p : ℕ) (b : Role) (f : ℕ → Role) (ks : List ℕ) → Nothing (map (λ k. way p k (full_weight m) (belongs b k ∷ belongs (f k) x ∷ [])) ks)
    through_none p b f [] = tt
    through_none p b f (k ∷ ks) = (ap (λ (w : Option S). combined m (t (belongs b k)) (combined m w (full_weight m))) (none (f k)) ∙ combine_none_right m laws (t (belongs b k)), through_none p b f ks)

    body_none : (p : ℕ) (y : Body Record) → BodyIn E y → Nothing (ways_by m E p y x)
    body_none p (Member y f) h = subst (λ (v : Bool). Nothing (cond v (way p 0 (m.credential f) [] ∷ []) [])) (sym (ne_eqb y.0 x (λ e. absurd (omega (arith, h, e))))) tt
    body_none p (Delegation b) h = (ap (λ (w : Option S). combined m w (full_weight m)) (none b), tt)
    body_none p (Link b c) h = through_none p b (λ k. role_of k c) (below E)
    body_none p (Intersection b c) h = (ap (λ (w : Option S). combined m w (combined m (t (belongs c x)) (full_weight m))) (none b), tt)

    of_none : (p : ℕ) (c : Credential) (r : Role) → CredentialIn E c → (v : Bool) → Nothing (cond v (ways_by m E p c.body x) [])
    of_none p c r h true = body_none p c.body h.body
    of_none p c r h false = tt

    from_none : (p : ℕ) (cs : List Credential) (r : Role) → AllIn E cs → Nothing (ways_from m E p cs (belongs r x))
    from_none p [] r h = tt
    from_none p (c ∷ cs) r h = All-append (λ y. weight_by m t y ≡ None) (ways_of m E p c (belongs r x)) (ways_from m E (suc p) cs (belongs r x)) (of_none p c r h.0 (same_role c.head r)) (from_none (suc p) cs r h.1)

    best_none : (ys : List (Way S)) → Nothing ys → best_of m (map (weighs m t) (map (candidate m) ys)) ≡ None
    best_none [] h = refl
    best_none (y ∷ ys) h = ap₂ (better_of m) h.0 (best_none ys h.1)

  module _ (cs : List Credential) (known : AllIn E cs) where
    -- who is not enrolled belongs to nothing
    pub beyond : (k : ℕ) (r : Role) (x : ℕ) → E ≤ x → table m E cs k (belongs r x) ≡ None
    beyond zero r x h = refl
    beyond (suc k) r x h = best_none (table m E cs k) x h (λ b. beyond k b x h) (ways m E cs (belongs r x)) (from_none (table m E cs k) x h (λ b. beyond k b x h) 0 cs r known)

    -- what is no head has no members
    pub headless : (k : ℕ) (r : Role) (x : ℕ) → number (heads cs) r ≡ None → table m E cs k (belongs r x) ≡ None
    headless zero r x h = refl
    headless (suc k) r x h = ap (λ ys. best_of m (map (weighs m (table m E cs k)) (map (candidate m) ys))) (no_ways m E 0 cs r x h)

    pub weight_cell : (k : ℕ) (r : Role) (h x : ℕ) → number (heads cs) r ≡ Some h → x < E → get_or (weights_after m E cs k) (h * E + x) None ≡ table m E cs k (belongs r x)
    weight_cell k r h x e l =
        let c = cell_of E (heads cs) r h x e l in
        get_or-map (table m E cs k) (cells E cs) (h * E + x) (belongs r x) None c.0 ∙ ap (table m E cs k) (c.1 (belongs r x))

    pub shown_table : (k : ℕ) → shown (heads cs) E (weights_after m E cs k) ≡ table m E cs k
    shown_table k = fun_ext (λ q. at q.role q.member.0 (cases_lt q.member.0 E))
      where
        by : (r : Role) (x : ℕ) → x < E → (n : Option ℕ) → number (heads cs) r ≡ n → weight_at (weights_after m E cs k) E n x ≡ table m E cs k (belongs r x)
        by r x l None e = sym (headless k r x e)
        by r x l (Some h) e = weight_cell k r h x e l

        at : (r : Role) (x : ℕ) → (x < E) ⊎ (E ≤ x) → shown (heads cs) E (weights_after m E cs k) (belongs r x) ≡ table m E cs k (belongs r x)
        at r x (inl l) = ap (λ (v : Bool). cond v (weight_at (weights_after m E cs k) E (number (heads cs) r) x) None) (lt-ltb x E l) ∙ by r x l (number (heads cs) r) refl
        at r x (inr l) = ap (λ (v : Bool). cond v (weight_at (weights_after m E cs k) E (number (heads cs) r) x) None) (le-ltb x E l) ∙ sym (beyond k r x l)
