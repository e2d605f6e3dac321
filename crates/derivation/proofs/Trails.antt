-- The steps of cells are those of their memberships' reasons, and never lead back.
use Rattle.std.proofs.Common.{◌≡◌, ℕ, zero, suc, ◌*◌, ◌<◌, ◌≤◌, List, [], ◌∷◌, length, get_or, Some, None, Option, sym, refl, ap, ◌∙◌, subst, ap₂, inl, inr, arith}
use mathlib.Core.List.{Memᴰ}
use Rattle.std.specs.List.{slice_get}
use Rattle.std.proofs.lemmas.List.{get_or-map, length-map}
use Rattle.std.proofs.lemmas.Option.{slice_get-get_or}
use Rattle.credential.specs.declared.Record.{Record}
use Rattle.credential.specs.declared.Body.{Body}
use Rattle.credential.specs.declared.Body.TheVariants.{Member, Delegation, Link, Intersection}
use Rattle.credential.specs.Same.{Credential}
use Rattle.scale.specs.Scale.{Meaning, Laws, Chooses}
use Rattle.scale.specs.Order.{none_some, weight_same}
use Rattle.rules.specs.declared.memberships.Membership.{Membership}
use Rattle.rules.specs.declared.memberships.Reason.{Reason}
use Rattle.rules.specs.Tables.{no_reason, system, table, Settled, reason}
use Rattle.rules.specs.Cells.{heads, cells}
use Rattle.rules.specs.Grants.{rests_with, rests_on}
use Rattle.heads.specs.Enrolled.{RoleIn, AllIn}
use Rattle.heads.proofs.Cells.{length_cells}
use Rattle.walk.specs.declared.reasons.CellStep.{CellStep}
use Rattle.walk.specs.Walk.{Premise, Acyclic}
use Rattle.derivation.specs.Trail.{cell_count, cell_of, cell_step, step_by, step_at, HasReasons}
use Rattle.derivation.specs.Explained.{Reasoned}
use Rattle.derivation.proofs.Places.{nth_mem}
use Rattle.derivation.proofs.Ranks.{rank, rank_falls}
use Rattle.derivation.proofs.Rests.{enrolled, resting, earning, rests_settled, rests_nothing, role_known, middle_known}
use Rattle.derivation.proofs.Located.{no_members, nowhere, at, found, has_cell, member_is}

module _ (cs : List Credential) (E : ℕ) (why : Reason) (x : ℕ) where
  premise_of : (ps : List Membership) (p : ℕ) → Premise (cell_step cs E why x ps) p → (q : Membership) × Memᴰ q ps × (cell_of cs E q ≡ Some p)
  premise_of [] p (inl e) = absurd (none_some e)
  premise_of [] p (inr e) = absurd (none_some e)
  premise_of (a ∷ ps) p (inl e) = (a, Memᴰ.head refl, e)
  premise_of (a ∷ []) p (inr e) = absurd (none_some e)
  premise_of (a ∷ b ∷ ps) p (inr e) = (b, Memᴰ.tail (Memᴰ.head refl), e)

  -- a rule needs two premises at most
  premise_by : (k : ℕ) (o : Option Credential) (q : Membership) (p : ℕ) → Memᴰ q (rests_with x k o) → cell_of cs E q ≡ Some p → Premise (cell_step cs E why x (rests_with x k o)) p
  premise_by k None q p m e = elim m [ ]
  premise_by k (Some c) q p m e = go c.body m
    where
      go : (b : Body Record) → Memᴰ q (rests_with x k (Some (record { head = c.head; body = b }))) → Premise (cell_step cs E why x (rests_with x k (Some (record { head = c.head; body = b })))) p
      go (Member y w) m = elim m [ ]
      go (Delegation b) (Memᴰ.head i) = inl (ap (cell_of cs E) (sym i) ∙ e)
      go (Delegation b) (Memᴰ.tail m) = elim m [ ]
      go (Link b t) (Memᴰ.head i) = inl (ap (cell_of cs E) (sym i) ∙ e)
      go (Link b t) (Memᴰ.tail (Memᴰ.head i)) = inr (ap (cell_of cs E) (sym i) ∙ e)
      go (Link b t) (Memᴰ.tail (Memᴰ.tail m)) = elim m [ ]
      go (Intersection b d) (Memᴰ.head i) = inl (ap (cell_of cs E) (sym i) ∙ e)
      go (Intersection b d) (Memᴰ.tail (Memᴰ.head i)) = inr (ap (cell_of cs E) (sym i) ∙ e)
      go (Intersection b d) (Memᴰ.tail (Memᴰ.tail m)) = elim m [ ]

-- there is no cell where nobody is enrolled
pub some_entities : (E many c : ℕ) → c < many * E → 0 < E
some_entities zero many c l = absurd (omega arith)
some_entities (suc E) many c l = omega arith

-- a goal explained by the reasons of a table that a source settles on a lawful scale
pub record Grounded {S : Type 0} (M : Meaning S) (E : ℕ) (cs : List Credential) (reasons : List Reason) (goal : Membership) (n : ℕ) : Type 0 where
  pub laws : Laws M
  pub chooses : Chooses M
  pub known : AllIn E cs
  pub short : length cs ≤ 512
  pub reasoned : Reasoned M E cs reasons goal n

module _ {S : Type 0} {M : Meaning S} {E : ℕ} {cs : List Credential} {reasons : List Reason} {goal : Membership} {n : ℕ} (g : Grounded M E cs reasons goal n) where
  abbrev leads : ℕ → CellStep
  leads = step_at cs E reasons

  reason_at : (c : ℕ) → c < cell_count cs E → get_or reasons c no_reason ≡ reason M E cs n (at E cs c)
  reason_at c l = ap (λ rs. get_or rs c no_reason) g.reasoned.are ∙ get_or-map (reason M E cs n) (cells E cs) c nowhere no_reason (omega (arith, length_cells E (heads cs)))

  pub has_reasons : HasReasons cs E reasons
  has_reasons = record {
    each = omega (arith, ap length g.reasoned.are, length-map (cells E cs) (reason M E cs n), length_cells E (heads cs));
    middles = λ c l. subst (λ y. y.middle.0 < E) (sym (reason_at c l)) (middle_known M g.laws g.chooses E cs n g.known (some_entities E (length (heads cs)) c l) (at E cs c));
  }

  pub leads_is : (c : ℕ) → c < cell_count cs E → step_at cs E reasons c ≡ step_by cs E (reason M E cs n (at E cs c)) (at E cs c).member.0
  leads_is c l = ap₂ (step_by cs E) (reason_at c l) (member_is E cs c l)

  -- a membership that is settled has a cell
  pub settled_cell : (q : Membership) → Settled M E cs n q → (p : ℕ) × (cell_of cs E q ≡ Some p)
  settled_cell q s = has_cell E cs q (λ z. s (no_members M E cs n q z))

  pub settled_at : (q : Membership) (p : ℕ) → Settled M E cs n q → cell_of cs E q ≡ Some p → (at E cs p ≡ q) × (p < cell_count cs E)
  settled_at q p s e = found E cs q (enrolled M g.laws g.chooses E cs g.known n q s) p e

  pub goal_member : goal.member.0 < E
  goal_member = enrolled M g.laws g.chooses E cs g.known n goal g.reasoned.settled

  pub goal_role : RoleIn E goal.role
  goal_role = role_known M g.laws g.chooses E cs n g.known goal g.reasoned.settled

  pub goal_cell : (p : ℕ) × (cell_of cs E goal ≡ Some p)
  goal_cell = settled_cell goal g.reasoned.settled

  pub goal_at : (cell : ℕ) → cell_of cs E goal ≡ Some cell → (at E cs cell ≡ goal) × (cell < cell_count cs E)
  goal_at cell found = settled_at goal cell g.reasoned.settled found

  -- only what is settled rests on something
  pub rests_only : (q p : Membership) → Memᴰ p (rests_on M E cs n q) → Settled M E cs n q
  rests_only q p m z = none (subst (Memᴰ p) (rests_nothing M g.laws g.chooses E cs n (omega (arith, g.short)) q z) m)
    where
      none : Memᴰ p [] → ⊥
      none k = elim k [ ]

  -- a premise of a cell's step is the cell of a membership that its own rests on
  pub premise_rests : (c p : ℕ) → c < cell_count cs E → Premise (step_at cs E reasons c) p → Memᴰ (at E cs p) (rests_on M E cs n (at E cs c)) × (p < cell_count cs E)
  premise_rests c p l is =
      let r = premise_of cs E (reason M E cs n (at E cs c)) (at E cs c).member.0 (rests_on M E cs n (at E cs c)) p (subst (λ s. Premise s p) (leads_is c l) is) in
      let f = settled_at r.0 p (rests_settled M g.laws g.chooses E cs n (at E cs c) r.0 (rests_only (at E cs c) r.0 r.1) r.1) r.2 in
      (subst (λ q. Memᴰ q (rests_on M E cs n (at E cs c))) (sym f.0) r.1, f.1)

  -- and all that it rests on have such cells
  pub rests_premise : (c : ℕ) (q : Membership) → c < cell_count cs E → Memᴰ q (rests_on M E cs n (at E cs c)) → (p : ℕ) × Premise (step_at cs E reasons c) p × (at E cs p ≡ q) × (cell_of cs E q ≡ Some p)
  rests_premise c q l m =
      let s = rests_settled M g.laws g.chooses E cs n (at E cs c) q (rests_only (at E cs c) q m) m in
      let p = settled_cell q s in
      let why = reason M E cs n (at E cs c) in
      (p.0, subst (λ v. Premise v p.0) (sym (leads_is c l)) (premise_by cs E why (at E cs c).member.0 why.middle.0 (slice_get cs why.place) q p.0 m p.1), (settled_at q p.0 s p.1).0, p.1)

  rank_by : (c : ℕ) → Dec (table M E cs n (at E cs c) ≡ None) → ℕ
  rank_by c (yes z) = 0
  rank_by c (no h) = rank M g.laws (system M E cs) n (cells E cs) (at E cs c) (earning M g.laws g.chooses E cs n (at E cs c) (resting M g.laws g.chooses E cs n (at E cs c) h))

  falls_by : (c p : ℕ) (a : Dec (table M E cs n (at E cs c) ≡ None)) (b : Dec (table M E cs n (at E cs p) ≡ None)) → c < cell_count cs E → Premise (step_at cs E reasons c) p → rank_by p b < rank_by c a
  unfolding rank_by
  falls_by c p (yes z) b l is = absurd (rests_only (at E cs c) (at E cs p) (premise_rests c p l is).0 z)
  falls_by c p (no h) (yes z) l is = absurd (rests_settled M g.laws g.chooses E cs n (at E cs c) (at E cs p) h (premise_rests c p l is).0 z)
  falls_by c p (no h) (no k) l is =
      let r = premise_rests c p l is in
      let e = resting M g.laws g.chooses E cs n (at E cs c) h in
      rank_falls M g.laws (system M E cs) n (cells E cs) (at E cs c) (at E cs p) (earning M g.laws g.chooses E cs n (at E cs c) e) (earning M g.laws g.chooses E cs n (at E cs p) (resting M g.laws g.chooses E cs n (at E cs p) k)) (nth_mem (cells E cs) p (at E cs p) (slice_get-get_or (cells E cs) p nowhere (omega (arith, length_cells E (heads cs), r.1)))) (subst (Memᴰ (at E cs p)) e.rests r.0)

  -- reasons never lead back
  pub acyclic : Acyclic (step_at cs E reasons) (cell_count cs E)
  acyclic = record {
    rank = λ c. rank_by c (weight_same M (table M E cs n (at E cs c)) None);
    inside = λ c p l is. (premise_rests c p l is).1;
    falls = λ c p l is. falls_by c p (weight_same M (table M E cs n (at E cs c)) None) (weight_same M (table M E cs n (at E cs p)) None) l is;
  }
