-- Which credential a way comes from, and that each credential's ways are listed.
use Rattle.std.proofs.Common.{◌≡◌, ℕ, zero, suc, ◌+◌, ◌<◌, ◌≤◌, Bool, true, false, cond, eqb, ◌⊎◌, List, [], ◌∷◌, ◌++◌, map, Some, sym, refl, ap, ◌∙◌, subst, inl, inr, arith}
use mathlib.Core.List.{Memᴰ}
use mathlib.Core.List.Memᴰ
use native.Mathlib.Decide.{dec_le}
use Rattle.std.specs.List.{slice_get}
use Rattle.std.proofs.lemmas.Bool.{and_parts, and_from, eqb-true, eq-eqb, cond-true}
use Rattle.credential.specs.declared.Role.{Role}
use Rattle.credential.specs.declared.Record.{Record}
use Rattle.credential.specs.declared.Body.{Body}
use Rattle.credential.specs.declared.Body.TheVariants.{Member, Delegation, Link, Intersection}
use Rattle.credential.specs.Same.{Credential, same_role}
use Rattle.scale.specs.Scale.{Meaning, full_weight}
use Rattle.scale.specs.Order.{none_some, some_is}
use Rattle.rules.specs.declared.memberships.Membership.{Membership}
use Rattle.rules.specs.Ways.{belongs, role_of, Way, way, below, ways_by, ways_of, ways_from, ways}

abbrev role : ℕ → ℕ → Role
role n k = record { entity = record { 0 = n }; name = record { 0 = k } }

pub role_is : (a b : Role) → same_role a b ≡ true → a ≡ b
role_is a b e =
    let p = and_parts _ _ e in
    ap (λ n. role n a.name.0) (eqb-true _ _ p.0) ∙ ap (role b.entity.0) (eqb-true _ _ p.1)

pub role_self : (a : Role) → same_role a a ≡ true
role_self a = and_from _ _ (eq-eqb a.entity.0 _ refl) (eq-eqb a.name.0 _ refl)

pub mem_below : (n x : ℕ) → x < n → Memᴰ x (below n)
mem_below zero x h = absurd (omega arith)
mem_below (suc n) x h = by (λ l. mem_below n x l) (dec_le (suc x) n)
  where
    by : (x < n → Memᴰ x (below n)) → Dec (suc x ≤ n) → Memᴰ x (below n ++ (n ∷ []))
    by rest (yes l) = Memᴰ.append_left (n ∷ []) (rest l)
    by rest (no l) = Memᴰ.append_right (below n) (Memᴰ.head (omega arith))

module _ {S : Type 0} (M : Meaning S) (E : ℕ) where
  -- what a way of the body is, whatever its place
  abbrev pub Named : Body Record → ℕ → Way S → Type 0
  Named (Member y r) x w = (y.0 ≡ x) × (w.middle ≡ 0) × (w.weight ≡ M.credential r) × (w.premises ≡ [])
  Named (Delegation b) x w = (w.middle ≡ 0) × (w.weight ≡ full_weight M) × (w.premises ≡ belongs b x ∷ [])
  Named (Link b t) x w = (w.weight ≡ full_weight M) × (w.premises ≡ belongs b w.middle ∷ belongs (role_of w.middle t) x ∷ [])
  Named (Intersection b c) x w = (w.middle ≡ 0) × (w.weight ≡ full_weight M) × (w.premises ≡ belongs b x ∷ belongs c x ∷ [])

  by_middles : (p : ℕ) (b : Role) (f : ℕ → Role) (x : ℕ) (ks : List ℕ) {w : Way S} → Memᴰ w (map (λ k. way p k (full_weight M) (belongs b k ∷ belongs (f k) x ∷ [])) ks) → (k : ℕ) × (w ≡ way p k (full_weight M) (belongs b k ∷ belongs (f k) x ∷ []))
  by_middles p b f x [] h = elim h [ ]
  by_middles p b f x (k ∷ ks) (Memᴰ.head e) = (k, e)
  by_middles p b f x (k ∷ ks) (Memᴰ.tail h) = by_middles p b f x ks h

  by_name : (p : ℕ) (y : Body Record) (x : ℕ) {w : Way S} → Memᴰ w (ways_by M E p y x) → (w.place ≡ p) × Named y x w
  by_name p (Member y r) x {w} h = by (eqb y.0 x) refl h
    where
      by : (v : Bool) → eqb y.0 x ≡ v → Memᴰ w (cond v (way p 0 (M.credential r) [] ∷ []) []) → (w.place ≡ p) × Named (Member y r) x w
      by true e h = subst (λ z. (z.place ≡ p) × Named (Member y r) x z) (sym (Memᴰ.eq_of_singleton h)) (refl, (eqb-true _ _ e, refl, refl, refl))
      by false e h = elim h [ ]
  by_name p (Delegation b) x h = subst (λ z. (z.place ≡ p) × Named (Delegation b) x z) (sym (Memᴰ.eq_of_singleton h)) (refl, (refl, refl, refl))
  by_name p (Link b t) x h =
      let r = by_middles p b (λ k. role_of k t) x (below E) h in
      subst (λ z. (z.place ≡ p) × Named (Link b t) x z) (sym r.1) (refl, (refl, refl))
  by_name p (Intersection b c) x h = subst (λ z. (z.place ≡ p) × Named (Intersection b c) x z) (sym (Memᴰ.eq_of_singleton h)) (refl, (refl, refl, refl))

  -- the credential that a listed way comes from
  pub record From (place : ℕ) (cs : List Credential) (q : Membership) (w : Way S) : Type 0 where
    pub credential : Credential
    pub here : ℕ
    pub at : slice_get cs here ≡ Some credential
    pub is : w.place ≡ place + here
    pub heads : credential.head ≡ q.role
    pub named : Named credential.body q.member.0 w

  pub comes_from : (p : ℕ) (cs : List Credential) (q : Membership) {w : Way S} → Memᴰ w (ways_from M E p cs q) → From p cs q w
  comes_from p [] q h = elim h [ ]
  comes_from p (c ∷ cs) q {w} h = by (Memᴰ.append_cases (ways_of M E p c q) h) (comes_from (suc p) cs q)
    where
      here : (v : Bool) → same_role c.head q.role ≡ v → Memᴰ w (cond v (ways_by M E p c.body q.member.0) []) → From p (c ∷ cs) q w
      here false e k = elim k [ ]
      here true e k =
          let n = by_name p c.body q.member.0 k in
          record { credential = c; here = 0; at = refl; is = omega (arith, n.0); heads = role_is c.head q.role e; named = n.1 }

      by : Memᴰ w (ways_of M E p c q) ⊎ Memᴰ w (ways_from M E (suc p) cs q) → (Memᴰ w (ways_from M E (suc p) cs q) → From (suc p) cs q w) → From p (c ∷ cs) q w
      by (inl k) again = here (same_role c.head q.role) refl k
      by (inr k) again =
          let r = again k in
          record { credential = r.credential; here = suc r.here; at = r.at; is = omega (arith, r.is); heads = r.heads; named = r.named }

  -- a way of the credential at a place is listed
  listed_from : (cs : List Credential) (p i : ℕ) (c : Credential) (x : ℕ) {w : Way S} → slice_get cs i ≡ Some c → Memᴰ w (ways_by M E (p + i) c.body x) → Memᴰ w (ways_from M E p cs (belongs c.head x))
  listed_from [] p i c x e h = absurd (none_some e)
  listed_from (d ∷ cs) p zero c x {w} e h =
      let same : d ≡ c = some_is e in
      let q = belongs c.head x in
      let here : Memᴰ w (ways_of M E p c q) = subst (Memᴰ w) (sym (cond-true _ _ _ (role_self c.head))) (subst (λ k. Memᴰ w (ways_by M E k c.body x)) (omega arith) h) in
      Memᴰ.append_left (ways_from M E (suc p) cs q) (subst (λ k. Memᴰ w (ways_of M E p k q)) (sym same) here)
  listed_from (d ∷ cs) p (suc i) c x {w} e h =
      Memᴰ.append_right (ways_of M E p d (belongs c.head x)) (listed_from cs (suc p) i c x e (subst (λ k. Memᴰ w (ways_by M E k c.body x)) (omega arith) h))

  pub listed : (cs : List Credential) (i : ℕ) (c : Credential) (x : ℕ) {w : Way S} → slice_get cs i ≡ Some c → Memᴰ w (ways_by M E i c.body x) → Memᴰ w (ways M E cs (belongs c.head x))
  listed cs i c x {w} e h = listed_from cs 0 i c x e (subst (λ k. Memᴰ w (ways_by M E k c.body x)) (omega arith) h)
