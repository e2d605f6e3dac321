-- Reasons of credentials, by the theory of earned weights.
use Rattle.std.proofs.Common.{◌≡◌, ℕ, zero, suc, ◌<◌, ◌⊎◌, List, [], ◌∷◌, map, None, Option, sym, refl, ◌∙◌, subst, inl, inr, arith}
use mathlib.Core.Logic.{if_pos, if_neg}
use mathlib.Core.List.{Memᴰ}
use mathlib.Core.List.Memᴰ
use Rattle.credential.specs.Same.{Credential}
use Rattle.scale.specs.Scale.{Meaning, Laws, Chooses, better_of, AtLeast}
use Rattle.scale.specs.Order.{weight_same}
use Rattle.rules.specs.declared.memberships.Membership.{Membership}
use Rattle.rules.specs.System.{Table, weighs}
use Rattle.rules.specs.Ways.{Way, ways}
use Rattle.rules.specs.Tables.{because, no_reason, candidate, weight_by, first_with, system, table, Settled, reason}
use Rattle.rules.specs.Reasons.{Earned, Leads, to_premise, onward}
use Rattle.rules.specs.Theorems.{NeverLeadsBack, ReasonsAreEarned, ReasonsWeigh}
use Rattle.rules.proofs.Order.{at_least_trans, at_least_antisym, best_picks}
use Rattle.rules.proofs.Rounds.{after_grows}
use Rattle.rules.proofs.Reasons as theory
use Rattle.rules.proofs.Derivations.{earned_holds}

module _ {S : Type 0} (M : Meaning S) (laws : Laws M) where
  module _ (E : ℕ) (cs : List Credential) (n : ℕ) where
    -- the same, as the theory has it
    abbrev pub as_earned : (q : Membership) (w : Way S) → Earned M E cs n q w → theory.Earned M laws (system M E cs) n q
    as_earned q w e = record {
      way = candidate M w;
      listed = Memᴰ.map (candidate M) e.listed;
      before = e.before;
      within = e.within;
      gave = e.gave;
      not_yet = e.not_yet;
    }

    module _ (why : Membership → Way S) (earned : (q : Membership) → Settled M E cs n q → Earned M E cs n q (why q)) where
      above : (q p : Membership) → Leads M E cs n why q p → AtLeast M (table M E cs n p) (table M E cs n q)
      above q p (to_premise h m) = theory.premise_above M laws (system M E cs) n q (as_earned q (why q) (earned q h)) p m
      above q p (onward {r = r} f g) = at_least_trans M laws (table M E cs n p) (table M E cs n r) (table M E cs n q) (above r p g) (above q r f)

      starts_settled : (q p : Membership) → Leads M E cs n why q p → Settled M E cs n q
      starts_settled q p (to_premise h m) = h
      starts_settled q p (onward {r = r} f g) = starts_settled q r f

      -- where the weight is the same, it was earned in an earlier round
      earlier : (q p : Membership) → Leads M E cs n why q p → (e : Earned M E cs n q (why q)) (f : Earned M E cs n p (why p)) → table M E cs n p ≡ table M E cs n q → f.before < e.before
      earlier q p (to_premise h m) e f same = theory.premise_earlier M laws (system M E cs) n q (as_earned q (why q) e) p (as_earned p (why p) f) m same
      earlier q p (onward {r = r} a b) e f same =
          let up_r = above q r a in
          let up_p = above r p b in
          let level : table M E cs n r ≡ table M E cs n q = at_least_antisym M laws _ _ up_r (subst (λ w. AtLeast M w (table M E cs n r)) same up_p) in
          let g = earned r (starts_settled r p b) in
          let first = earlier q r a e g level in
          let second = earlier r p b g f (same ∙ sym level) in
          omega (arith, first, second)

      never : (q : Membership) → Leads M E cs n why q q → ⊥
      never q l = let e = earned q (starts_settled q q l) in let lt = earlier q q l e e refl in omega (arith, lt)

  pub never_leads_back : NeverLeadsBack M
  never_leads_back E cs n why earned q l = never E cs n why earned q l

  pub reasons_weigh : ReasonsWeigh M
  reasons_weigh E cs n still q w e = earned_holds M laws (system M E cs) n still q (as_earned E cs n q w e)

module _ {S : Type 0} (M : Meaning S) (laws : Laws M) (chooses : Chooses M) where
  -- a weight that some way has is the weight of the first that is named
  first_of : (t : Table Membership S) (v : Option S) (ys : List (Way S)) → Memᴰ v (map (weighs M t) (map (candidate M) ys)) → (w : Way S) × Memᴰ w ys × (weight_by M t w ≡ v) × (first_with M t v ys ≡ because w.place w.middle)
  first_of t v [] h = elim h [ ]
  first_of t v (y ∷ ys) h = by (weight_same M (weight_by M t y) v) h (first_of t v ys)
    where
      by : Dec (weight_by M t y ≡ v) → Memᴰ v (map (weighs M t) (map (candidate M) (y ∷ ys))) → (Memᴰ v (map (weighs M t) (map (candidate M) ys)) → (w : Way S) × Memᴰ w ys × (weight_by M t w ≡ v) × (first_with M t v ys ≡ because w.place w.middle)) → (w : Way S) × Memᴰ w (y ∷ ys) × (weight_by M t w ≡ v) × (first_with M t v (y ∷ ys) ≡ because w.place w.middle)
      by (yes e) k again = (y, Memᴰ.head refl, e, if_pos (weight_same M (weight_by M t y) v) e _ _)
      by (no n) (Memᴰ.head e) again = absurd (n (sym e))
      by (no n) (Memᴰ.tail k) again = let r = again k in (r.0, Memᴰ.tail r.1, r.2, if_neg (weight_same M (weight_by M t y) v) n _ _ ∙ r.3)

  module _ (E : ℕ) (cs : List Credential) where
    abbrev Reasoned : ℕ → Membership → Type 0
    Reasoned n q = (w : Way S) × (reason M E cs n q ≡ because w.place w.middle) × Earned M E cs n q w

    reasoned : (n : ℕ) (q : Membership) → Settled M E cs n q → Reasoned n q
    reasoned zero q h = absurd (h refl)
    reasoned (suc k) q h = by (weight_same M (table M E cs (suc k) q) (table M E cs k q)) (reasoned k q)
      where
        by : Dec (table M E cs (suc k) q ≡ table M E cs k q) → (Settled M E cs k q → Reasoned k q) → Reasoned (suc k) q
        by (yes e) again =
            let r = again (λ z. h (e ∙ z)) in (
              r.0,
              if_pos (weight_same M (table M E cs (suc k) q) (table M E cs k q)) e _ _ ∙ r.1,
              record {
                listed = r.2.listed;
                before = r.2.before;
                within = omega (arith, r.2.within);
                gave = r.2.gave ∙ sym e;
                not_yet = λ z. r.2.not_yet (z ∙ e);
              },
            )
        by (no n) again = from (best_picks M laws chooses (map (weighs M (table M E cs k)) (system M E cs q)))
          where
            from : (table M E cs (suc k) q ≡ None) ⊎ Memᴰ (table M E cs (suc k) q) (map (weighs M (table M E cs k)) (system M E cs q)) → Reasoned (suc k) q
            from (inl z) = absurd (h z)
            from (inr m) =
                let r = first_of (table M E cs k) (table M E cs (suc k) q) (ways M E cs q) m in (
                  r.0,
                  if_neg (weight_same M (table M E cs (suc k) q) (table M E cs k q)) n _ _ ∙ r.3,
                  record {
                    listed = r.1;
                    before = k;
                    within = omega arith;
                    gave = r.2;
                    not_yet = λ z. n (sym z);
                  },
                )

    -- what is not settled has no reason
    unreasoned : (n : ℕ) (q : Membership) → table M E cs n q ≡ None → reason M E cs n q ≡ no_reason
    unreasoned zero q h = refl
    unreasoned (suc k) q h =
        let low : better_of M None (table M E cs k q) ≡ None = subst (λ w. better_of M w (table M E cs k q) ≡ w) h (after_grows M laws (system M E cs) k q) in
        let before : table M E cs k q ≡ None = sym (laws.better_none (table M E cs k q)) ∙ low in
        if_pos (weight_same M (table M E cs (suc k) q) (table M E cs k q)) (h ∙ sym before) _ _ ∙ unreasoned k q before

  pub reasons_are_earned : ReasonsAreEarned M
  reasons_are_earned E cs n q = (reasoned E cs n q, unreasoned E cs n q)
