-- Derivations against tables: none weighs more than a closed one has, and each entry has one.
use Rattle.std.proofs.Common.{◌≡◌, ℕ, zero, suc, ◌<◌, Bool, true, false, cond, ◌&&◌, eqb, ◌⊎◌, List, [], ◌∷◌, ◌++◌, map, length, Some, None, Option, sym, refl, ap, ◌∙◌, subst, ap₂, inl, inr}
use mathlib.Core.List.{Memᴰ}
use mathlib.Core.List.Memᴰ
use Rattle.std.specs.List.{slice_get}
use Rattle.std.proofs.lemmas.Bool.{and_parts, and_from, eqb-true, eq-eqb, cond-true}
use Rattle.credential.specs.declared.Record.{Record}
use Rattle.credential.specs.declared.Body.{Body}
use Rattle.credential.specs.declared.Body.TheVariants.{Member, Delegation, Link, Intersection}
use Rattle.credential.specs.Same.{Credential}
use Rattle.scale.specs.Scale.{Meaning, Laws, Chooses, combined, full_weight, AtLeast}
use Rattle.scale.specs.Order.{none_some, some_is, combine_full_right}
use Rattle.rules.specs.declared.memberships.Membership.{Membership}
use Rattle.rules.specs.declared.memberships.Step.{Step}
use Rattle.rules.specs.System.{Table, product, weighs}
use Rattle.rules.specs.Ways.{belongs, role_of, Way, way, ways_by, ways}
use Rattle.rules.specs.Tables.{candidate, weight_by, system, table, ClosedTable}
use Rattle.rules.specs.Derivation.{same_membership, Concluded, concluded, exactly, cited, by_rule, weighed, by_credential, follow, Stands, no_step, one_more, Derivation}
use Rattle.rules.specs.Theorems.{MemberBelow, MembersEnrolled, DerivationsBelow}
use Rattle.rules.proofs.Order.{at_least_trans, combine_mono_both, best_upper, best_picks}
use Rattle.rules.proofs.Listed.{role_is, role_self, mem_below, Named, From, comes_from, listed}

pub membership_is : (a b : Membership) → same_membership a b ≡ true → a ≡ b
membership_is a b e =
    let p = and_parts _ _ e in
    ap (λ r. belongs r a.member.0) (role_is _ _ p.0) ∙ ap (belongs b.role) (eqb-true _ _ p.1)

pub membership_self : (a : Membership) → same_membership a a ≡ true
membership_self a = and_from _ _ (role_self a.role) (eq-eqb a.member.0 _ refl)

module _ {S : Type 0} where
  cond_some : (b : Bool) (o : Option S) (w : S) → cond b o None ≡ Some w → (b ≡ true) × (o ≡ Some w)
  cond_some true o w e = (refl, e)
  cond_some false o w e = absurd (none_some e)

  cited_some : (ds : List (Concluded S)) (k : ℕ) (g : Membership) (w : S) → cited ds k g ≡ Some w → slice_get ds k ≡ Some (concluded g w)
  cited_some ds k g w = by (slice_get ds k)
    where
      by : (o : Option (Concluded S)) → exactly g o ≡ Some w → o ≡ Some (concluded g w)
      by None e = absurd (none_some e)
      by (Some d) e =
          let p = cond_some (same_membership d.membership g) (Some d.weight) w e in
          ap₂ (λ a v. Some (concluded a v)) (membership_is d.membership g p.0) (some_is p.1)

  -- a step that concludes g is cited for it
  cited_at : (ds : List (Concluded S)) (k : ℕ) (g : Membership) (w : S) → slice_get ds k ≡ Some (concluded g w) → cited ds k g ≡ Some w
  cited_at ds k g w e = ap (exactly g) e ∙ cond-true _ _ _ (membership_self g)

  nth_last : (ds : List (Concluded S)) (d : Concluded S) → slice_get (ds ++ d ∷ []) (length ds) ≡ Some d
  nth_last [] d = refl
  nth_last (x ∷ ds) d = nth_last ds d

  nth_kept : (ds : List (Concluded S)) (d e : Concluded S) (k : ℕ) → slice_get ds k ≡ Some e → slice_get (ds ++ d ∷ []) k ≡ Some e
  nth_kept [] d e k h = absurd (none_some h)
  nth_kept (x ∷ ds) d e zero h = h
  nth_kept (x ∷ ds) d e (suc k) h = nth_kept ds d e k h

  -- what holds of all and of one more holds of all with it
  nth_each : (P : Concluded S → Type 0) (ds : List (Concluded S)) (d : Concluded S) → ((k : ℕ) (e : Concluded S) → slice_get ds k ≡ Some e → P e) → P d → (k : ℕ) (e : Concluded S) → slice_get (ds ++ d ∷ []) k ≡ Some e → P e
  nth_each P [] d all here zero e h = subst P (some_is h) here
  nth_each P [] d all here (suc k) e h = absurd (none_some h)
  nth_each P (x ∷ ds) d all here zero e h = all zero e h
  nth_each P (x ∷ ds) d all here (suc k) e h = nth_each P ds d (λ j. all (suc j)) here k e h

module _ {S : Type 0} (M : Meaning S) (laws : Laws M) where
  combined_some : (x y : Option S) (w : S) → combined M x y ≡ Some w → (a : S) × (b : S) × (x ≡ Some a) × (y ≡ Some b)
  combined_some None y w e = absurd (none_some e)
  combined_some (Some a) None w e = absurd (none_some e)
  combined_some (Some a) (Some b) w e = (a, b, refl, refl)

  weighed_some : (g : Membership) (o : Option S) (d : Concluded S) → weighed M g o ≡ Some d → (w : S) × (o ≡ Some w) × (concluded g w ≡ d)
  weighed_some g None d e = absurd (none_some e)
  weighed_some g (Some w) d e = (w, refl, some_is e)

  -- what a step that follows rests on
  followed : (cs : List Credential) (ds : List (Concluded S)) (s : Step) (d : Concluded S) → follow M cs ds s ≡ Some d → (c : Credential) × (w : S) × (slice_get cs s.place ≡ Some c) × (by_rule M ds c.body s ≡ Some w) × (concluded (belongs c.head s.member.0) w ≡ d)
  followed cs ds s d = by (slice_get cs s.place)
    where
      by : (o : Option Credential) → by_credential M ds s o ≡ Some d → (c : Credential) × (w : S) × (o ≡ Some c) × (by_rule M ds c.body s ≡ Some w) × (concluded (belongs c.head s.member.0) w ≡ d)
      by None e = absurd (none_some e)
      by (Some c) e = let r = weighed_some (belongs c.head s.member.0) (by_rule M ds c.body s) d e in (c, r.0, refl, r.1, r.2)

  -- no derivation weighs more than a closed table has

  module _ (E : ℕ) (cs : List Credential) (enrolled : MembersEnrolled E cs) (t : Table Membership S) (closed : ClosedTable M E cs t) where
    -- a conclusion of an enrolled member that weighs at most its entry
    abbrev Good : Concluded S → Type 0
    Good d = (d.membership.member.0 < E) × AtLeast M (t d.membership) (Some d.weight)

    abbrev AllGood : List (Concluded S) → Type 0
    AllGood ds = (k : ℕ) (d : Concluded S) → slice_get ds k ≡ Some d → Good d

    -- an entry weighs at least what a listed way weighs
    entry_above : (c : Credential) (i x : ℕ) (y : Way S) → slice_get cs i ≡ Some c → Memᴰ y (ways_by M E i c.body x) → AtLeast M (t (belongs c.head x)) (weight_by M t y)
    entry_above c i x y e h =
        at_least_trans M laws _ _ _ (closed (belongs c.head x)) (best_upper M laws _ (Memᴰ.map (weighs M t) (Memᴰ.map (candidate M) (listed M E cs i c x e h))))

    -- the same of a way with two premises
    two_below : (c : Credential) (i x : ℕ) (y : Way S) (a b w : S) {p q : Membership} → slice_get cs i ≡ Some c → Memᴰ y (ways_by M E i c.body x) → candidate M y ≡ record { weight = full_weight M; premises = p ∷ q ∷ [] } → AtLeast M (t p) (Some a) → AtLeast M (t q) (Some b) → combined M (Some a) (Some b) ≡ Some w → AtLeast M (t (belongs c.head x)) (Some w)
    two_below c i x y a b w {p} {q} at here is up_p up_q e =
        let gives : AtLeast M (combined M (t p) (combined M (t q) (full_weight M))) (Some w) =
        subst (λ v. AtLeast M (combined M (t p) v) (Some w)) (sym (combine_full_right M laws (t q))) (subst (AtLeast M (combined M (t p) (t q))) e (combine_mono_both M laws (t p) (t q) (Some a) (Some b) up_p up_q)) in
        at_least_trans M laws _ _ _ (entry_above c i x y at here) (subst (λ k. AtLeast M (weighs M t k) (Some w)) (sym is) gives)

    one_good : (c : Credential) (i : ℕ) (s : Step) (ds : List (Concluded S)) (w : S) → slice_get cs i ≡ Some c → AllGood ds → MemberBelow E c.body → (b : Body Record) → c.body ≡ b → by_rule M ds b s ≡ Some w → (s.member.0 < E) × AtLeast M (t (belongs c.head s.member.0)) (Some w)
    one_good c i s ds w at good in_range (Member x r) is e =
        let p = cond_some (eqb x.0 s.member.0 && (eqb s.middle.0 0 && (eqb s.first 0 && eqb s.second 0))) (M.credential r) w e in
        let same = (and_parts _ _ p.0).0 in
        let here : Memᴰ (way i 0 (M.credential r) []) (ways_by M E i c.body s.member.0) = subst (λ b. Memᴰ (way i 0 (M.credential r) []) (ways_by M E i b s.member.0)) (sym is) (subst (Memᴰ (way i 0 (M.credential r) [])) (sym (cond-true _ _ _ same)) (Memᴰ.head refl)) in
        (subst (λ n. n < E) (eqb-true _ _ same) (subst (MemberBelow E) is in_range), subst (AtLeast M (t (belongs c.head s.member.0))) p.1 (entry_above c i s.member.0 (way i 0 (M.credential r) []) at here))
    one_good c i s ds w at good in_range (Delegation b) is e =
        let p = cond_some (eqb s.middle.0 0 && eqb s.second 0) (cited ds s.first (belongs b s.member.0)) w e in
        let g = good s.first _ (cited_some ds s.first (belongs b s.member.0) w p.1) in
        let y = way i 0 (full_weight M) (belongs b s.member.0 ∷ []) in
        let here : Memᴰ y (ways_by M E i c.body s.member.0) = subst (λ z. Memᴰ y (ways_by M E i z s.member.0)) (sym is) (Memᴰ.head refl) in
        (g.0, at_least_trans M laws _ _ _ (entry_above c i s.member.0 y at here) (subst (λ v. AtLeast M v (Some w)) (sym (combine_full_right M laws _)) g.1))
    one_good c i s ds w at good in_range (Link b u) is e =
        let p = combined_some _ _ w e in
        let g = good s.first _ (cited_some ds s.first (belongs b s.middle.0) p.0 p.2) in
        let h = good s.second _ (cited_some ds s.second (belongs (role_of s.middle.0 u) s.member.0) p.1 p.3) in
        let y = way i s.middle.0 (full_weight M) (belongs b s.middle.0 ∷ belongs (role_of s.middle.0 u) s.member.0 ∷ []) in
        let here : Memᴰ y (ways_by M E i c.body s.member.0) = subst (λ z. Memᴰ y (ways_by M E i z s.member.0)) (sym is) (Memᴰ.map (λ k. way i k (full_weight M) (belongs b k ∷ belongs (role_of k u) s.member.0 ∷ [])) (mem_below E s.middle.0 g.0)) in
        (h.0, two_below c i s.member.0 y _ _ w at here refl g.1 h.1 (sym (ap₂ (combined M) p.2 p.3) ∙ e))
    one_good c i s ds w at good in_range (Intersection b d) is e =
        let r = cond_some (eqb s.middle.0 0) (combined M (cited ds s.first (belongs b s.member.0)) (cited ds s.second (belongs d s.member.0))) w e in
        let p = combined_some _ _ w r.1 in
        let g = good s.first _ (cited_some ds s.first (belongs b s.member.0) p.0 p.2) in
        let h = good s.second _ (cited_some ds s.second (belongs d s.member.0) p.1 p.3) in
        let y = way i 0 (full_weight M) (belongs b s.member.0 ∷ belongs d s.member.0 ∷ []) in
        let here : Memᴰ y (ways_by M E i c.body s.member.0) = subst (λ z. Memᴰ y (ways_by M E i z s.member.0)) (sym is) (Memᴰ.head refl) in
        (g.0, two_below c i s.member.0 y _ _ w at here refl g.1 h.1 (sym (ap₂ (combined M) p.2 p.3) ∙ r.1))

    all_good : {ss : List Step} {ds : List (Concluded S)} → Stands M cs ss ds → AllGood ds
    all_good no_step k d e = absurd (none_some e)
    all_good (one_more {ds = ds} s d st f) k e h =
        let r = followed cs ds s d f in
        let g = one_good r.0 s.place s ds r.1 r.2 (all_good st) (enrolled s.place r.0 r.2) r.0.body refl r.3 in
        nth_each Good ds d (all_good st) (subst Good r.4 g) k e h

    below_entry : (q : Membership) (w : S) (steps : List Step) → Derivation M cs q w steps → AtLeast M (t q) (Some w)
    below_entry q w steps d =
        let good = all_good (one_more d.last (concluded q w) d.stands d.concludes) in
        (good (length d.told) (concluded q w) (nth_last d.told (concluded q w))).1

  pub derivations_below : DerivationsBelow M
  derivations_below E cs enrolled t closed q w steps d = below_entry E cs enrolled t closed q w steps d

-- for every entry some derivation weighs exactly as much

module _ {S : Type 0} (M : Meaning S) (laws : Laws M) (chooses : Chooses M) (E : ℕ) (cs : List Credential) where
  -- from steps with the conclusions ds one comes, by more steps, to one that concludes q with w
  record Reached (q : Membership) (w : S) (ds : List (Concluded S)) : Type 0 where
    steps : List Step
    told : List (Concluded S)
    stands : Stands M cs steps told
    keeps : (k : ℕ) (e : Concluded S) → slice_get ds k ≡ Some e → slice_get told k ≡ Some e
    last : Step
    follows : follow M cs told last ≡ Some (concluded q w)

  abbrev after_it : {q : Membership} {w : S} {ds : List (Concluded S)} → Reached q w ds → List (Concluded S)
  after_it {q} {w} r = r.told ++ concluded q w ∷ []

  stands_on : {q : Membership} {w : S} {ds : List (Concluded S)} (r : Reached q w ds) → Stands M cs (r.steps ++ r.last ∷ []) (after_it r)
  stands_on {q} {w} r = one_more r.last (concluded q w) r.stands r.follows

  kept_on : {q : Membership} {w : S} {ds : List (Concluded S)} (r : Reached q w ds) (k : ℕ) (e : Concluded S) → slice_get ds k ≡ Some e → slice_get (after_it r) k ≡ Some e
  kept_on {q} {w} r k e h = nth_kept r.told (concluded q w) e k (r.keeps k e h)

  -- any weight of the table after k rounds is reached
  abbrev Reaches : ℕ → Type 0
  Reaches k = (q : Membership) (w : S) → table M E cs k q ≡ Some w → (ss : List Step) (ds : List (Concluded S)) → Stands M cs ss ds → Reached q w ds

  follow_by : (q : Membership) (w : S) (c : Credential) (ds : List (Concluded S)) (s : Step) → slice_get cs s.place ≡ Some c → c.head ≡ q.role → s.member.0 ≡ q.member.0 → by_rule M ds c.body s ≡ Some w → follow M cs ds s ≡ Some (concluded q w)
  follow_by q w c ds s at heads member rule =
      ap (by_credential M ds s) at ∙ ap (weighed M (belongs c.head s.member.0)) rule ∙ ap₂ (λ r x. Some (concluded (belongs r x) w)) heads member

  abbrev step_at : ℕ → ℕ → ℕ → ℕ → ℕ → Step
  step_at p x k a b = record { place = p; member = record { 0 = x }; middle = record { 0 = k }; first = a; second = b }

  -- two premises reached, one after the other
  record Both (p q : Membership) (a b : S) (ds : List (Concluded S)) : Type 0 where
    steps : List Step
    told : List (Concluded S)
    stands : Stands M cs steps told
    keeps : (k : ℕ) (e : Concluded S) → slice_get ds k ≡ Some e → slice_get told k ≡ Some e
    first : ℕ
    second : ℕ
    at_first : slice_get told first ≡ Some (concluded p a)
    at_second : slice_get told second ≡ Some (concluded q b)

  both : (n : ℕ) → Reaches n → (p q : Membership) (a b : S) → table M E cs n p ≡ Some a → table M E cs n q ≡ Some b → (ss : List Step) (ds : List (Concluded S)) → Stands M cs ss ds → Both p q a b ds
  both n again p q a b e f ss ds st =
      let r = again p a e ss ds st in
      let u = again q b f (r.steps ++ r.last ∷ []) (after_it r) (stands_on r) in
      record {
        steps = u.steps ++ u.last ∷ [];
        told = after_it u;
        stands = stands_on u;
        keeps = λ k x h. kept_on u k x (kept_on r k x h);
        first = length r.told;
        second = length u.told;
        at_first = kept_on u (length r.told) (concluded p a) (nth_last r.told (concluded p a));
        at_second = nth_last u.told (concluded q b);
      }

  -- a way of two premises weighs them combined
  split_two : (n : ℕ) (y : Way S) (p q : Membership) (w : S) → y.weight ≡ full_weight M → y.premises ≡ p ∷ q ∷ [] → weight_by M (table M E cs n) y ≡ Some w → (a : S) × (b : S) × (table M E cs n p ≡ Some a) × (table M E cs n q ≡ Some b) × (combined M (Some a) (Some b) ≡ Some w)
  split_two n y p q w full prem e =
      let t = table M E cs n in
      let c : combined M (t p) (t q) ≡ Some w = ap (combined M (t p)) (sym (combine_full_right M laws (t q))) ∙ sym (ap₂ (λ v ps. product M v (map t ps)) full prem) ∙ e in
      let r = combined_some M laws (t p) (t q) w c in
      (r.0, r.1, r.2, r.3, sym (ap₂ (combined M) r.2 r.3) ∙ c)

  by_way : (n : ℕ) → Reaches n → (q : Membership) (w : S) (y : Way S) → weight_by M (table M E cs n) y ≡ Some w → From M E 0 cs q y → (ss : List Step) (ds : List (Concluded S)) → Stands M cs ss ds → Reached q w ds
  by_way n again q w y gives from ss ds st = go from.credential.body refl from.named
    where
      go : (b : Body Record) → from.credential.body ≡ b → Named M E b q.member.0 y → Reached q w ds
      go (Member x r) is named =
          let s = step_at from.here q.member.0 0 0 0 in
          let weight : M.credential r ≡ Some w = sym named.2 ∙ sym (ap (λ ps. product M y.weight (map (table M E cs n) ps)) named.3) ∙ gives in
          let rule : by_rule M ds from.credential.body s ≡ Some w = ap (λ b. by_rule M ds b s) is ∙ cond-true _ _ _ (and_from _ _ (eq-eqb _ _ named.0) refl) ∙ weight in
          record { steps = ss; told = ds; stands = st; keeps = λ k e h. h; last = s; follows = follow_by q w from.credential ds s from.at from.heads refl rule }
      go (Delegation b) is named =
          let p = belongs b q.member.0 in
          let t = table M E cs n in
          let had : t p ≡ Some w = sym (combine_full_right M laws (t p)) ∙ sym (ap₂ (λ v ps. product M v (map t ps)) named.1 named.2) ∙ gives in
          let r = again p w had ss ds st in
          let s = step_at from.here q.member.0 0 (length r.told) 0 in
          let rule : by_rule M (after_it r) from.credential.body s ≡ Some w = ap (λ b. by_rule M (after_it r) b s) is ∙ cited_at (after_it r) (length r.told) p w (nth_last r.told (concluded p w)) in
          record { steps = r.steps ++ r.last ∷ []; told = after_it r; stands = stands_on r; keeps = kept_on r; last = s; follows = follow_by q w from.credential (after_it r) s from.at from.heads refl rule }
      go (Link b u) is named =
          let p1 = belongs b y.middle in
          let p2 = belongs (role_of y.middle u) q.member.0 in
          let v = split_two n y p1 p2 w named.0 named.1 gives in
          let r = both n again p1 p2 v.0 v.1 v.2 v.3 ss ds st in
          let s = step_at from.here q.member.0 y.middle r.first r.second in
          let rule : by_rule M r.told from.credential.body s ≡ Some w = ap (λ b. by_rule M r.told b s) is ∙ ap₂ (combined M) (cited_at r.told r.first p1 v.0 r.at_first) (cited_at r.told r.second p2 v.1 r.at_second) ∙ v.4 in
          record { steps = r.steps; told = r.told; stands = r.stands; keeps = r.keeps; last = s; follows = follow_by q w from.credential r.told s from.at from.heads refl rule }
      go (Intersection b c) is named =
          let p1 = belongs b q.member.0 in
          let p2 = belongs c q.member.0 in
          let v = split_two n y p1 p2 w named.1 named.2 gives in
          let r = both n again p1 p2 v.0 v.1 v.2 v.3 ss ds st in
          let s = step_at from.here q.member.0 0 r.first r.second in
          let rule : by_rule M r.told from.credential.body s ≡ Some w = ap (λ b. by_rule M r.told b s) is ∙ ap₂ (combined M) (cited_at r.told r.first p1 v.0 r.at_first) (cited_at r.told r.second p2 v.1 r.at_second) ∙ v.4 in
          record { steps = r.steps; told = r.told; stands = r.stands; keeps = r.keeps; last = s; follows = follow_by q w from.credential r.told s from.at from.heads refl rule }

  reaches : (n : ℕ) → Reaches n
  reaches zero q w e ss ds st = absurd (none_some e)
  reaches (suc k) q w e ss ds st = pick (reaches k) (best_picks M laws chooses (map (weighs M (table M E cs k)) (system M E cs q)))
    where
      pick : Reaches k → (table M E cs (suc k) q ≡ None) ⊎ Memᴰ (table M E cs (suc k) q) (map (weighs M (table M E cs k)) (system M E cs q)) → Reached q w ds
      pick again (inl z) = absurd (none_some (sym z ∙ e))
      pick again (inr m) =
          let a = Memᴰ.of_map (weighs M (table M E cs k)) (system M E cs q) m in
          let b = Memᴰ.of_map (candidate M) (ways M E cs q) a.1 in
          by_way k again q w b.0 (ap (weighs M (table M E cs k)) b.2 ∙ a.2 ∙ e) (comes_from M E 0 cs q b.1) ss ds st

  pub derivation_reaches : (n : ℕ) (q : Membership) (w : S) → table M E cs n q ≡ Some w → (steps : List Step) × Derivation M cs q w steps
  derivation_reaches n q w e =
      let r = reaches n q w e [] [] no_step in
      (r.steps ++ r.last ∷ [], record { before = r.steps; told = r.told; last = r.last; are = refl; stands = r.stands; concludes = r.follows })
