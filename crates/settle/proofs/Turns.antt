-- The turns of the loop of rounds.
use Rattle.std.proofs.Common.{◌≡◌, ℕ, zero, suc, ◌+◌, ◌*◌, ◌<◌, ◌≤◌, Bool, true, false, ltb, List, [], ◌∷◌, map, length, get_or, replicate, Some, None, filter, Option, sym, refl, ap, ◌∙◌, subst, ap₂, add-one, arith}
use mathlib.Core.Path.{fun_ext}
use Rattle.scale.specs.Scale.{Meaning, Laws, Chooses, AtLeast}
use Rattle.credential.specs.declared.Role.{Role}
use Rattle.credential.specs.Same.{Credential}
use Rattle.rules.specs.declared.memberships.Reason.{Reason}
use Rattle.rules.specs.declared.memberships.Membership.{Membership}
use Rattle.rules.specs.Ways.{belongs, Way, ways}
use Rattle.rules.specs.Tables.{weight_by, table, Still}
use Rattle.rules.specs.Cells.{heads, number, cells_of, cells, weights_after, reasons_after}
use Rattle.heads.specs.Enrolled.{AllIn}
use Rattle.settle.specs.Entries.{entry_at, offered, shown, Spread}
use Rattle.settle.specs.Settled.{Settles}
use Rattle.std.specs.Borrow.{Bor}
use Rattle.std.specs.Bool.{then_some}
use Rattle.std.proofs.lemmas.Bool.{le-ltb, lt-ltb}
use Rattle.settle.specs.Moves.{flags, flag_of, worth, RowChanged, AnySet, Noted}
use Rattle.heads.proofs.Cells.{length_cells}
use Rattle.settle.proofs.Beyond.{shown_table, weight_cell}
use Rattle.settle.proofs.Bridge.{kept_offered}
use Rattle.settle.proofs.Rows.{rows_within, number_below}
use Rattle.settle.proofs.Skipping.{Unmoved, as_before, skipped_below}
use Rattle.settle.proofs.Ending.{Change, next_weights, next_reasons, covered_same, uncovered_changes, changes_cells, settles}

-- every cell at first
pub first_cells : {X : Type 0} (ms : List Membership) (v : X) → replicate (length ms) v ≡ map (λ _. v) ms
first_cells [] v = refl
first_cells (q ∷ ms) v = ap (λ vs. v ∷ vs) (first_cells ms v)

pub first_list : {X : Type 0} (E : ℕ) (rs : List Role) (v : X) (xs : List X) (n : ℕ) → n ≡ length rs * E → xs ≡ replicate n v → xs ≡ map (λ _. v) (cells_of E rs)
first_list E rs v xs n e h = h ∙ ap (λ j. replicate j v) (e ∙ sym (length_cells E rs)) ∙ first_cells (cells_of E rs) v

-- the flags of the last round, where there was one
pub unmoved_then : {S : Type 0} (m : Meaning S) (E : ℕ) (cs : List Credential) (k : ℕ) (flags : List Bool) (changed : Option (List Bool)) → Unmoved m E cs k (Some flags) → (k ≡ 0 → changed ≡ None) → (0 < k → changed ≡ Some flags) → Unmoved m E cs k changed
unmoved_then m E cs zero flags changed unmoved first later = λ r h x e f l. refl
unmoved_then m E cs (suc k) flags changed unmoved first later = subst (Unmoved m E cs (suc k)) (sym (later (omega arith))) unmoved

-- which flags are read: none in the first round
module _ (k : ℕ) (last : Bor (List Bool)) (o : Option (Bor (List Bool))) (e : o ≡ then_some (ltb 0 k) last) where
  pub none_first : k ≡ 0 → flags o ≡ None
  none_first z = ap flags (e ∙ ap (λ (b : Bool). then_some b last) (le-ltb 0 k (omega arith)))

  pub last_later : 0 < k → flags o ≡ Some last.now
  last_later l = ap flags (e ∙ ap (λ (b : Bool). then_some b last) (lt-ltb 0 k l))

-- one turn: former, before and why are the lists after k rounds, changed says which rows the last of those changed,
-- and latest and reasons are what a round leaves of before and why
pub record Turn {S : Type 0} (m : Meaning S) (E : ℕ) (cs : List Credential) (k : ℕ) (former before : List (Option S)) (why : List Reason) (changed : Option (List Bool)) (latest : List (Option S)) (reasons : List Reason) : Type 0 where
  pub former_is : former ≡ weights_after m E cs k
  pub before_is : before ≡ weights_after m E cs k
  pub why_is : why ≡ reasons_after m E cs k
  pub unmoved : Unmoved m E cs k changed
  pub first : k ≡ 0 → changed ≡ None
  pub latest_long : length latest ≡ length (heads cs) * E
  pub reasons_long : length reasons ≡ length (heads cs) * E
  pub spread : Spread (heads cs) E (λ q. offered m (shown (heads cs) E former) (filter (worth (heads cs) changed) (ways m E cs q))) (entry_at before why) (entry_at latest reasons)

module _ {S : Type 0} {m : Meaning S} (laws : Laws m) {E : ℕ} {cs : List Credential} (known : AllIn E cs) {k : ℕ} {former before : List (Option S)} {why : List Reason} {changed : Option (List Bool)} {latest : List (Option S)} {reasons : List Reason} (turn : Turn m E cs k former before why changed latest reasons) where
  -- the ways left out would change nothing
  spread_table : Spread (heads cs) E (λ q. offered m (table m E cs k) (ways m E cs q)) (entry_at (weights_after m E cs k) (reasons_after m E cs k)) (entry_at latest reasons)
  spread_table r h x e l =
      let q = belongs r x in
      let p : Way S → Bool = worth (heads cs) changed in
      let was = entry_at (weights_after m E cs k) (reasons_after m E cs k) (h * E + x) in
      turn.spread r h x e l
      ∙ ap₂ (λ t y. offered m t (filter p (ways m E cs q)) y) (ap (shown (heads cs) E) turn.former_is ∙ shown_table m laws E cs known k) (ap₂ (λ (ws : List (Option S)) (ys : List Reason). entry_at ws ys (h * E + x)) turn.before_is turn.why_is)
      ∙ kept_offered m laws (table m E cs k) p (ways m E cs q) was (λ y i f. subst (λ (w : Option S). AtLeast m w (weight_by m (table m E cs k) y)) (sym (weight_cell m laws E cs known k r h x e l)) (skipped_below m laws E cs known k changed turn.unmoved turn.first q y i f))

  weights_next : latest ≡ weights_after m E cs (suc k)
  weights_next = next_weights m laws E cs known k latest reasons (turn.latest_long ∙ sym (length_cells E (heads cs))) (turn.reasons_long ∙ sym (length_cells E (heads cs))) spread_table

  pub latest_next : latest ≡ weights_after m E cs (k + 1)
  latest_next = rw add-one weights_next

  pub reasons_next : Chooses m → reasons ≡ reasons_after m E cs (k + 1)
  reasons_next chooses = rw add-one (next_reasons m laws E cs known k latest reasons (turn.latest_long ∙ sym (length_cells E (heads cs))) (turn.reasons_long ∙ sym (length_cells E (heads cs))) spread_table chooses)

  -- the flags after the round
  module _ (n : ℕ) (flags : List Bool) (any : Bool) (many : n ≡ length (heads cs)) (noted : Noted m E n former latest flags any) where
    of_tables : (h : ℕ) → h < n → RowChanged m (weights_after m E cs k) (weights_after m E cs (suc k)) (h * E) E (get_or flags h false)
    of_tables h l = subst (λ (ws : List (Option S)). RowChanged m ws (weights_after m E cs (suc k)) (h * E) E (get_or flags h false)) turn.former_is (subst (λ (ws : List (Option S)). RowChanged m former ws (h * E) E (get_or flags h false)) weights_next (noted.rows h l))

    unmoved_suc : Unmoved m E cs (suc k) (Some flags)
    unmoved_suc r h x e f l =
        let lh : h < n = omega (arith, number_below (heads cs) r h e) in
        let row = subst (RowChanged m (weights_after m E cs k) (weights_after m E cs (suc k)) (h * E) E) f (of_tables h lh) in
        covered_same m laws E cs known k r h x e l (row x l)

    pub unmoved_next : Unmoved m E cs (k + 1) (Some flags)
    unmoved_next = rw add-one unmoved_suc

    pub gained : any ≡ true → Change m E cs k
    gained e =
        let one = subst (AnySet flags n) e noted.some in
        let row = subst (RowChanged m (weights_after m E cs k) (weights_after m E cs (suc k)) (one.0 * E) E) one.2 (of_tables one.0 one.1) in
        let lh : one.0 < length (heads cs) = omega (arith, one.1) in
        uncovered_changes m laws E cs known k (one.0 * E + row.0) (omega (arith, row.1, rows_within E (length (heads cs)) (length (heads cs) * E) (omega arith) one.0 lh, length_cells E (heads cs))) row.2

    -- so another round is left
    pub not_last : any ≡ true → suc k ≤ length (heads cs) * E
    not_last e = omega (arith, changes_cells m laws E cs known k (gained e), length_cells E (heads cs))

    still : any ≡ false → Still m E cs k
    still e q = as_before m laws E cs known (suc k) (Some flags) unmoved_suc q (by (number (heads cs) q.role) refl)
      where
        by : (o : Option ℕ) → number (heads cs) q.role ≡ o → flag_of (Some flags) o ≡ false
        by None c = refl
        by (Some h) c = subst (AnySet flags n) e noted.some h (omega (arith, number_below (heads cs) q.role h c))

    pub former_next : any ≡ false → former ≡ weights_after m E cs (k + 1)
    former_next e = turn.former_is ∙ rw add-one (ap (λ (t : Membership → Option S). map t (cells E cs)) (sym (fun_ext (still e))))

    pub ended : any ≡ false → ((j : ℕ) → j < k → Change m E cs j) → Settles m E cs (k + 1)
    ended e earlier = rw add-one (settles m laws E cs known k earlier (still e))
