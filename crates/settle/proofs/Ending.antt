-- A round's lists, and the end of the rounds.
use Rattle.std.proofs.Common.{◌≡◌, ℕ, zero, suc, ◌+◌, ◌*◌, ◌<◌, ◌≤◌, Bool, true, false, cond, ◌⊎◌, List, [], ◌∷◌, map, length, get_or, is_some as option_is_some, Some, None, filter, Option, sym, refl, ap, ◌∙◌, subst, ap₂, inl, inr, arith}
use mathlib.Core.Path.{fun_ext}
use mathlib.Core.List.{Memᴰ}
use lib.ListN.{length-map}
use Rattle.std.proofs.lemmas.List.{get_or-map, ext_get_or}
use Rattle.std.proofs.lemmas.Bool.{cases_lt}
use Rattle.scale.specs.Scale.{Meaning, Laws, Chooses, better_of, AtLeast}
use Rattle.scale.specs.Best.{best_of}
use Rattle.rules.specs.System.{Table, round}
use Rattle.rules.specs.declared.memberships.Reason.{Reason}
use Rattle.rules.specs.declared.memberships.Membership.{Membership}
use Rattle.rules.specs.Ways.{belongs, ways}
use Rattle.rules.specs.Tables.{no_reason, weight_by, system, table, reason, Still, Rounds, Settled}
use Rattle.rules.specs.Cells.{heads, number, cells, weights_after, reasons_after, settled}
use Rattle.heads.specs.Enrolled.{AllIn}
use Rattle.settle.specs.Entries.{Entry, entry_at, offered, Spread}
use Rattle.settle.specs.Settled.{Settles}
use Rattle.settle.proofs.Bridge.{entry_after, round_entry, offered_weight, better_next}
use Rattle.heads.proofs.Distinct.{heads_unrepeated}
use Rattle.heads.proofs.Cells.{cell_of, cell_from}
use Rattle.settle.proofs.Beyond.{beyond, headless, weight_cell}
use Rattle.rules.proofs.Order.{at_least_refl, at_least_antisym}
use Rattle.rules.proofs.Rounds.{after_grows}
use Rattle.rules.proofs.Settling.{least_closed, rounds_bounded}
use Rattle.rules.proofs.Spine.{bounded}
use Rattle.credential.specs.declared.Role.{Role}
use Rattle.credential.specs.Same.{Credential}

mem_at : {X : Type 0} (xs : List X) (i : ℕ) (d : X) → i < length xs → Memᴰ (get_or xs i d) xs
mem_at [] i d h = absurd (omega arith)
mem_at (x ∷ xs) zero d h = Memᴰ.head refl
mem_at (x ∷ xs) (suc i) d h = Memᴰ.tail (mem_at xs i d (omega arith))

mem_kept : {X : Type 0} (p : X → Bool) (xs : List X) {x : X} → p x ≡ true → Memᴰ x xs → Memᴰ x (filter p xs)
mem_kept p [] h m = elim m [ ]
mem_kept p (y ∷ xs) {x} h (Memᴰ.head e) =
    subst (λ (v : Bool). Memᴰ x (cond v (y ∷ filter p xs) (filter p xs))) (sym (ap p (sym e) ∙ h)) (Memᴰ.head e)
mem_kept p (y ∷ xs) {x} h (Memᴰ.tail m) = by (p y) (mem_kept p xs h m)
  where
    by : (v : Bool) → Memᴰ x (filter p xs) → Memᴰ x (cond v (y ∷ filter p xs) (filter p xs))
    by true k = Memᴰ.tail k
    by false k = k

is_some : {S : Type 0} (w : Option S) → (w ≡ None → ⊥) → option_is_some w ≡ true
is_some None h = absurd (h refl)
is_some (Some a) h = refl

-- a round that changes some entry
abbrev pub Change : {S : Type 0} → Meaning S → ℕ → List Credential → ℕ → Type 0
Change m E cs k = (q : Membership) × (table m E cs (suc k) q ≡ table m E cs k q → ⊥)

module _ {S : Type 0} (m : Meaning S) (laws : Laws m) (E : ℕ) (cs : List Credential) (known : AllIn E cs) where
  reason_cell : (k : ℕ) (r : Role) (h x : ℕ) → number (heads cs) r ≡ Some h → x < E → get_or (reasons_after m E cs k) (h * E + x) no_reason ≡ reason m E cs k (belongs r x)
  reason_cell k r h x e l =
      let c = cell_of E (heads cs) r h x e l in
      get_or-map (reason m E cs k) (cells E cs) (h * E + x) (belongs r x) no_reason c.0 ∙ ap (reason m E cs k) (c.1 (belongs r x))

  entry_cell : (k : ℕ) (r : Role) (h x : ℕ) → number (heads cs) r ≡ Some h → x < E → entry_at (weights_after m E cs k) (reasons_after m E cs k) (h * E + x) ≡ entry_after m laws E cs k (belongs r x) k
  entry_cell k r h x e l = ap₂ (λ (w : Option S) (y : Reason). record { weight = w; reason = y }) (weight_cell m laws E cs known k r h x e l) (reason_cell k r h x e l)

  -- the ways offered to each cell of the lists after k rounds leave the lists after one more
  module _ (k : ℕ) (latest : List (Option S)) (reasons : List Reason) (long : length latest ≡ length (cells E cs)) (long2 : length reasons ≡ length (cells E cs))
      (turn : Spread (heads cs) E (λ q. offered m (table m E cs k) (ways m E cs q)) (entry_at (weights_after m E cs k) (reasons_after m E cs k)) (entry_at latest reasons)) where
    next_weight : (r : Role) (h x : ℕ) → number (heads cs) r ≡ Some h → x < E → get_or latest (h * E + x) None ≡ table m E cs (suc k) (belongs r x)
    next_weight r h x e l =
        ap (λ (y : Entry S). y.weight) (turn r h x e l)
        ∙ offered_weight m laws (table m E cs k) (ways m E cs (belongs r x)) (entry_at (weights_after m E cs k) (reasons_after m E cs k) (h * E + x))
        ∙ ap (λ (w : Option S). better_of m w (best_of m (map (weight_by m (table m E cs k)) (ways m E cs (belongs r x))))) (weight_cell m laws E cs known k r h x e l)
        ∙ better_next m laws E cs k (belongs r x)

    pub next_weights : latest ≡ weights_after m E cs (suc k)
    next_weights = ext_get_or None latest (weights_after m E cs (suc k)) (long ∙ sym (length-map (cells E cs) (table m E cs (suc k)))) (λ i l.
        let c = cell_from E (heads cs) (heads_unrepeated cs) i (omega (arith, long)) in
        ap (λ j. get_or latest j None) c.is
        ∙ next_weight c.role c.head c.member c.numbered c.within
        ∙ sym (weight_cell m laws E cs known (suc k) c.role c.head c.member c.numbered c.within)
        ∙ ap (λ j. get_or (weights_after m E cs (suc k)) j None) (sym c.is))

    -- the first way with the new weight is named where one way has it
    next_reason : Chooses m → (r : Role) (h x : ℕ) → number (heads cs) r ≡ Some h → x < E → get_or reasons (h * E + x) no_reason ≡ reason m E cs (suc k) (belongs r x)
    next_reason chooses r h x e l =
        ap (λ (y : Entry S). y.reason)
        (turn r h x e l
        ∙ ap (offered m (table m E cs k) (ways m E cs (belongs r x))) (entry_cell k r h x e l)
        ∙ round_entry m laws E cs k (belongs r x) chooses)

    pub next_reasons : Chooses m → reasons ≡ reasons_after m E cs (suc k)
    next_reasons chooses = ext_get_or no_reason reasons (reasons_after m E cs (suc k)) (long2 ∙ sym (length-map (cells E cs) (reason m E cs (suc k)))) (λ i l.
        let c = cell_from E (heads cs) (heads_unrepeated cs) i (omega (arith, long2)) in
        ap (λ j. get_or reasons j no_reason) c.is
        ∙ next_reason chooses c.role c.head c.member c.numbered c.within
        ∙ sym (reason_cell (suc k) c.role c.head c.member c.numbered c.within)
        ∙ ap (λ j. get_or (reasons_after m E cs (suc k)) j no_reason) (sym c.is))

  -- what is settled stands in a cell
  in_cells : (k : ℕ) (q : Membership) → (table m E cs k q ≡ None → ⊥) → Memᴰ q (cells E cs)
  in_cells k q h = by (number (heads cs) q.role) refl (cases_lt q.member.0 E)
    where
      by : (n : Option ℕ) → number (heads cs) q.role ≡ n → (q.member.0 < E) ⊎ (E ≤ q.member.0) → Memᴰ q (cells E cs)
      by None e l = absurd (h (headless m laws E cs known k q.role q.member.0 e))
      by (Some n) e (inr l) = absurd (h (beyond m laws E cs known k q.role q.member.0 l))
      by (Some n) e (inl l) =
          let c = cell_of E (heads cs) q.role n q.member.0 e l in
          subst (λ (p : Membership). Memᴰ p (cells E cs)) (c.1 q) (mem_at (cells E cs) (n * E + q.member.0) q c.0)

  -- all that is settled is in the list of it
  in_settled : (k : ℕ) (q : Membership) → Settled m E cs k q → Memᴰ q (settled m E cs k)
  in_settled k q h = mem_kept (λ p. option_is_some (table m E cs k p)) (cells E cs) (is_some (table m E cs k q) h) (in_cells k q h)

  -- a round that changes something has fewer before it than there are cells
  pub changes_cells : (k : ℕ) → Change m E cs k → suc k ≤ length (cells E cs)
  changes_cells k c = bounded m laws (system m E cs) (suc k) k (cells E cs) (λ q h. in_cells (suc k) q h) (omega arith) c.0 c.1

  module _ (k : ℕ) where
    -- an entry that weighs no more after a round is as it was
    pub covered_same : (r : Role) (h x : ℕ) → number (heads cs) r ≡ Some h → x < E → AtLeast m (get_or (weights_after m E cs k) (h * E + x) None) (get_or (weights_after m E cs (suc k)) (h * E + x) None) → table m E cs (suc k) (belongs r x) ≡ table m E cs k (belongs r x)
    covered_same r h x e l c =
        let up = ap₂ (λ (v : Option S) (w : Option S). AtLeast m v w) (weight_cell m laws E cs known k r h x e l) (weight_cell m laws E cs known (suc k) r h x e l) in
        at_least_antisym m laws (table m E cs (suc k) (belongs r x)) (table m E cs k (belongs r x)) (after_grows m laws (system m E cs) k (belongs r x)) (subst (λ (P : Type 0). P) up c)

    -- and one that weighs more is a change
    pub uncovered_changes : (i : ℕ) → i < length (cells E cs) → (AtLeast m (get_or (weights_after m E cs k) i None) (get_or (weights_after m E cs (suc k)) i None) → ⊥) → Change m E cs k
    uncovered_changes i l h =
        let c = cell_from E (heads cs) (heads_unrepeated cs) i l in
        let q = belongs c.role c.member in
        let old = ap (λ j. get_or (weights_after m E cs k) j None) c.is ∙ weight_cell m laws E cs known k c.role c.head c.member c.numbered c.within in
        let new = ap (λ j. get_or (weights_after m E cs (suc k)) j None) c.is ∙ weight_cell m laws E cs known (suc k) c.role c.head c.member c.numbered c.within in
        (q, λ e. h (subst (λ (w : Option S). better_of m (get_or (weights_after m E cs k) i None) w ≡ get_or (weights_after m E cs k) i None) (old ∙ sym e ∙ sym new) (at_least_refl m laws (get_or (weights_after m E cs k) i None))))

  -- where a round changes nothing, the next does not
  still_next : (k : ℕ) → Still m E cs k → Still m E cs (suc k)
  still_next k h q = ap (λ (t : Table Membership S). round m (system m E cs) t q) (fun_ext h)

  pub settles : (k : ℕ) → ((j : ℕ) → j < k → Change m E cs j) → Still m E cs k → Settles m E cs (suc k)
  settles k before still =
      let rounds : Rounds m E cs (suc k) = record { last = (k, refl, still); earlier = λ j l. before j (omega arith) } in
      let end = least_closed m laws E cs (suc k) (still_next k still) in
      record {
        rounds = rounds;
        still = still_next k still;
        closed = end.0;
        least = end.1;
        bounded = rounds_bounded m laws E cs (suc k) rounds (settled m E cs (suc k)) (in_settled (suc k));
      }
