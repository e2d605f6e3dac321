-- What a settled membership rests on by its reason is settled, and enrolled.
use Rattle.std.proofs.Common.{◌≡◌, ℕ, zero, suc, ◌<◌, ◌≤◌, ◌⊎◌, List, [], map, length, Some, None, Option, sym, refl, ap, ◌∙◌, subst, inl, inr, arith}
use mathlib.Core.List.{Memᴰ}
use mathlib.Core.List.Memᴰ
use Rattle.std.specs.List.{slice_get}
use Rattle.std.proofs.lemmas.Option.{get_or_from_slice_get, slice_get_past, slice_get_within}
use Rattle.std.proofs.lemmas.List.Elements.{All-from_recursion}
use Rattle.credential.specs.declared.Record.{Record}
use Rattle.credential.specs.declared.Body.{Body}
use Rattle.credential.specs.declared.Body.TheVariants.{Member, Delegation, Link, Intersection}
use Rattle.credential.specs.Same.{Credential}
use Rattle.scale.specs.Scale.{Meaning, Laws, Chooses, AtLeast}
use Rattle.scale.specs.Order.{weight_same}
use Rattle.rules.specs.declared.memberships.Membership.{Membership}
use Rattle.rules.specs.System.{Table, product, weighs}
use Rattle.rules.specs.Ways.{belongs, role_of, Way, ways}
use Rattle.rules.specs.Tables.{because, candidate, weight_by, system, table, Settled, reason}
use Rattle.rules.specs.Reasons.{Earned}
use Rattle.rules.specs.Grants.{rests_by, rests_with, rests_on}
use Rattle.rules.proofs.Order.{best_picks}
use Rattle.rules.proofs.Rounds.{product_below}
use Rattle.rules.proofs.Reasons.{Earned as Earning}
use Rattle.rules.proofs.Listed.{Named, From, comes_from}
use Rattle.rules.proofs.Earning.{as_earned, reasons_are_earned}
use Rattle.heads.specs.Enrolled.{RoleIn, BodyIn, CredentialIn, AllIn}
use Rattle.derivation.proofs.Ranks.{premise_settled}

pub credential_in : (E : ℕ) (cs : List Credential) (i : ℕ) (c : Credential) → AllIn E cs → slice_get cs i ≡ Some c → CredentialIn E c
credential_in E cs i c all e = subst (CredentialIn E) (get_or_from_slice_get cs i c c e) (All-from_recursion (CredentialIn E) cs all i c (slice_get_within cs i c e))

module _ {S : Type 0} (M : Meaning S) (laws : Laws M) (chooses : Chooses M) (E : ℕ) (cs : List Credential) where
  -- the premises of what has a weight have weights
  premise_some : (t : Table Membership S) (v : Option S) (ps : List Membership) {p : Membership} → Memᴰ p ps → (product M v (map t ps) ≡ None → ⊥) → t p ≡ None → ⊥
  premise_some t v ps m h z =
      let low : AtLeast M None (product M v (map t ps)) = subst (λ x. AtLeast M x (product M v (map t ps))) z (product_below M laws (system M E cs) t v ps m) in
      h (sym (laws.better_none (product M v (map t ps))) ∙ low)

  some_way : (k : ℕ) (q : Membership) → Settled M E cs (suc k) q → (w : Way S) × Memᴰ w (ways M E cs q) × (weight_by M (table M E cs k) w ≡ None → ⊥)
  some_way k q h = by (best_picks M laws chooses (map (weighs M (table M E cs k)) (system M E cs q)))
    where
      by : (table M E cs (suc k) q ≡ None) ⊎ Memᴰ (table M E cs (suc k) q) (map (weighs M (table M E cs k)) (system M E cs q)) → (w : Way S) × Memᴰ w (ways M E cs q) × (weight_by M (table M E cs k) w ≡ None → ⊥)
      by (inl z) = absurd (h z)
      by (inr m) =
          let a = Memᴰ.of_map (weighs M (table M E cs k)) (system M E cs q) m in
          let b = Memᴰ.of_map (candidate M) (ways M E cs q) a.1 in
          (b.0, b.1, λ z. h (sym a.2 ∙ ap (weighs M (table M E cs k)) (sym b.2) ∙ z))

  module _ (known : AllIn E cs) where
    -- only what is enrolled is ever settled
    pub enrolled : (k : ℕ) (q : Membership) → Settled M E cs k q → q.member.0 < E
    enrolled zero q h = absurd (h refl)
    enrolled (suc k) q h = go f.credential.body refl f.named (enrolled k)
      where
        r : (w : Way S) × Memᴰ w (ways M E cs q) × (weight_by M (table M E cs k) w ≡ None → ⊥)
        r = some_way k q h

        f : From M E 0 cs q r.0
        f = comes_from M E 0 cs q r.1

        go : (b : Body Record) → f.credential.body ≡ b → Named M E b q.member.0 r.0 → ((p : Membership) → Settled M E cs k p → p.member.0 < E) → q.member.0 < E
        go (Member x w) is named again = let h : x.0 < E = subst (BodyIn E) is (credential_in E cs f.here f.credential known f.at).body in omega (arith, named.0)
        go (Delegation b) is named again = again (belongs b q.member.0) (premise_some (table M E cs k) r.0.weight r.0.premises (subst (Memᴰ (belongs b q.member.0)) (sym named.2) (Memᴰ.head refl)) r.2)
        go (Link b t) is named again = again (belongs (role_of r.0.middle t) q.member.0) (premise_some (table M E cs k) r.0.weight r.0.premises (subst (Memᴰ (belongs (role_of r.0.middle t) q.member.0)) (sym named.1) (Memᴰ.tail (Memᴰ.head refl))) r.2)
        go (Intersection b c) is named again = again (belongs b q.member.0) (premise_some (table M E cs k) r.0.weight r.0.premises (subst (Memᴰ (belongs b q.member.0)) (sym named.2) (Memᴰ.head refl)) r.2)

  rests_named : (b : Body Record) (x : ℕ) (w : Way S) → Named M E b x w → rests_by x w.middle b ≡ w.premises
  rests_named (Member y r) x w h = sym h.3
  rests_named (Delegation b) x w h = sym h.2
  rests_named (Link b t) x w h = sym h.1
  rests_named (Intersection b c) x w h = sym h.2

  module _ (n : ℕ) where
    -- the way that the reason of a membership names, and its credential
    pub record Resting (q : Membership) : Type 0 where
      pub way : Way S
      pub because_of : reason M E cs n q ≡ because way.place way.middle
      pub earned : Earned M E cs n q way
      pub credential : Credential
      pub at : slice_get cs way.place ≡ Some credential
      pub heads : credential.head ≡ q.role
      pub named : Named M E credential.body q.member.0 way
      pub rests : rests_on M E cs n q ≡ way.premises

    pub resting : (q : Membership) → Settled M E cs n q → Resting q
    resting q h =
        let r = (reasons_are_earned M laws chooses E cs n q).0 h in
        let f = comes_from M E 0 cs q r.2.listed in
        let here : r.0.place ≡ f.here = omega (arith, f.is) in
        let at : slice_get cs r.0.place ≡ Some f.credential = ap (slice_get cs) here ∙ f.at in
        record {
          way = r.0;
          because_of = r.1;
          earned = r.2;
          credential = f.credential;
          at = at;
          heads = f.heads;
          named = f.named;
          rests =
              ap (λ y. rests_with q.member.0 y.middle.0 (slice_get cs y.place)) r.1
              ∙ ap (rests_with q.member.0 r.0.middle) at
              ∙ rests_named f.credential.body q.member.0 r.0 f.named;
        }

    -- what earned it, as the theory of rounds has it
    abbrev pub earning : (q : Membership) → Resting q → Earning M laws (system M E cs) n q
    earning q r = as_earned M laws E cs n q r.way r.earned

    pub rests_settled : (q p : Membership) → Settled M E cs n q → Memᴰ p (rests_on M E cs n q) → Settled M E cs n p
    rests_settled q p h m = let r = resting q h in premise_settled M laws (system M E cs) n q p (earning q r) (subst (Memᴰ p) r.rests m)

    -- what is not settled rests on nothing
    pub rests_nothing : length cs ≤ 65535 → (q : Membership) → table M E cs n q ≡ None → rests_on M E cs n q ≡ []
    rests_nothing short q z =
        ap (λ y. rests_with q.member.0 y.middle.0 (slice_get cs y.place)) ((reasons_are_earned M laws chooses E cs n q).1 z)
        ∙ ap (rests_with q.member.0 0) (slice_get_past cs 65535 short)

    module _ (known : AllIn E cs) where
      pub role_known : (q : Membership) → Settled M E cs n q → RoleIn E q.role
      role_known q h = let r = resting q h in subst (RoleIn E) r.heads (credential_in E cs r.way.place r.credential known r.at).head

      -- the middle of a link is enrolled, and that of any other body is 0
      pub middle_known : 0 < E → (q : Membership) → (reason M E cs n q).middle.0 < E
      middle_known some q = by (weight_same M (table M E cs n q) None)
        where
          go : (h : Settled M E cs n q) (r : Resting q) (b : Body Record) → Named M E b q.member.0 r.way → r.way.middle < E
          go h r (Member x w) named = omega (arith, named.1)
          go h r (Delegation b) named = omega (arith, named.0)
          go h r (Link b t) named = enrolled known n (belongs b r.way.middle) (rests_settled q (belongs b r.way.middle) h (subst (Memᴰ (belongs b r.way.middle)) (sym (r.rests ∙ named.1)) (Memᴰ.head refl)))
          go h r (Intersection b c) named = omega (arith, named.0)

          by : Dec (table M E cs n q ≡ None) → (reason M E cs n q).middle.0 < E
          by (yes z) = subst (λ y. y.middle.0 < E) (sym ((reasons_are_earned M laws chooses E cs n q).1 z)) some
          by (no h) = let r = resting q h in subst (λ y. y.middle.0 < E) (sym r.because_of) (go h r r.credential.body r.named)
