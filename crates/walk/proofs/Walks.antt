-- The walk's invariant: a stack of open cells, each a premise of the one below it, over the cells that are done.
use Rattle.std.proofs.Common.{◌≡◌, ℕ, ◌+◌, ◌-◌, ◌<◌, ◌≤◌, ◌≢◌, ◌⊎◌, eqb, List, [], ◌∷◌, ◌++◌, length, get_or, set, take, replicate, Option, Some, None, sym, refl, ap, ◌∙◌, subst, inl, inr, arith}
use Rattle.std.specs.List.{All, AllPairs, slice_get}
use Rattle.std.proofs.lemmas.Bool.{cases_eq, cases_lt, eqb-true}
use Rattle.std.proofs.lemmas.Bool.Decides.{Decides-eqb}
use Rattle.std.proofs.lemmas.List.{get_or-set_same, get_or-set_other, get_or_append_left, get_or-append_right, get_or_push, length_push, get_or-replicate, take_more, take_all, length-append, length-set, get_or_default, get_or_past, length-replicate}
use Rattle.std.proofs.lemmas.List.Elements.{All-append, All-push, All-nil, All-pop}
use Rattle.std.proofs.lemmas.List.Quantifiers.{all_pairs_push}
use Rattle.std.proofs.lemmas.List.Folds.{Any-from_list_any}
use Rattle.std.proofs.lemmas.Map.Made.{IsDistinct-from_AllPairs}
use Rattle.std.proofs.lemmas.Map.Steps.{length-le_from_distinct_below}
use Rattle.std.proofs.lemmas.Option.{get_or_from_slice_get, slice_get_within}
use Rattle.walk.specs.declared.reasons.CellStep.{CellStep}
use Rattle.walk.specs.Walk.{number_in, open_premise, Premise, Reached, here, onward, Acyclic, Ordered}
use Rattle.walk.proofs.Opens.{open_some, open_none}

-- nothing has a number at first
pub none_yet : (m c : ℕ) → number_in (replicate m None) c ≡ None
none_yet m c = by (cases_lt c m)
  where
    by : (c < m) ⊎ (m ≤ c) → number_in (replicate m None) c ≡ None
    by (inl h) = get_or-replicate m c None None h
    by (inr h) = get_or_past (replicate m None) c None (omega (arith, length-replicate {A = Option ℕ} m None))

-- different numbers below n are at most n
few_below : (n : ℕ) (xs : List ℕ) → AllPairs (λ a b. a ≢ b) xs → All (λ c. c < n) xs → length xs ≤ n
few_below n xs apart low =
    length-le_from_distinct_below xs n (IsDistinct-from_AllPairs Decides-eqb xs apart) (λ q h.
    let a = Any-from_list_any (eqb q) xs h in
    let e = eqb-true q a.1 a.4 in
    omega (arith, e, a.3, low a.0 a.1 a.2))

-- the last element, apart
from_last : (xs : List ℕ) (t : ℕ) → Some t ≡ slice_get xs (length xs - 1) → xs ≡ take (length xs - 1) xs ++ t ∷ []
from_last xs t e =
    let within = slice_get_within xs (length xs - 1) t (sym e) in
    let whole : length xs - 1 + 1 ≡ length xs = omega (arith, within) in
    sym (take_all (length xs) xs (omega arith)) ∙ ap (λ i. take i xs) (sym whole) ∙ take_more xs (length xs - 1) t within
    ∙ ap (λ x. take (length xs - 1) xs ++ x ∷ []) (get_or_from_slice_get xs (length xs - 1) t t (sym e))

-- one more element
each_push : (P : ℕ → ℕ → Type 0) (xs : List ℕ) (v : ℕ) → ((k : ℕ) → k < length xs → P k (get_or xs k 0)) → P (length xs) v → (k : ℕ) → k < length (xs ++ v ∷ []) → P k (get_or (xs ++ v ∷ []) k 0)
each_push P xs v old new k a = by (cases_lt k (length xs))
  where
    by : (k < length xs) ⊎ (length xs ≤ k) → P k (get_or (xs ++ v ∷ []) k 0)
    by (inl b) = subst (P k) (sym (get_or_append_left xs (v ∷ []) 0 k b)) (old k b)
    by (inr b) = let e : length xs ≡ k = omega (arith, length_push xs v) in subst (λ i. P i (get_or (xs ++ v ∷ []) i 0)) e (subst (P (length xs)) (sym (get_or_push xs v 0 (length xs) refl)) new)

-- and one less
pairs_front : (R : ℕ → ℕ → Type 0) (xs : List ℕ) (t : ℕ) → AllPairs R (xs ++ t ∷ []) → AllPairs R xs
pairs_front R xs t h i j d a b = subst (λ x. R x (get_or xs j d)) (get_or_append_left xs (t ∷ []) d i (omega arith)) (subst (R (get_or (xs ++ t ∷ []) i d)) (get_or_append_left xs (t ∷ []) d j b) (h i j d a (omega (arith, length_push xs t))))

pairs_last : (R : ℕ → ℕ → Type 0) (xs : List ℕ) (t : ℕ) → AllPairs R (xs ++ t ∷ []) → All (λ x. R x t) xs
pairs_last R xs t h k d a = subst (λ x. R x t) (get_or_append_left xs (t ∷ []) d k a) (subst (R (get_or (xs ++ t ∷ []) k d)) (get_or_push xs t d (length xs) refl) (h k (length xs) d a (omega (arith, length_push xs t))))

first_kept : (xs : List ℕ) (t g : ℕ) → get_or (xs ++ t ∷ []) 0 g ≡ g → get_or xs 0 g ≡ g
first_kept [] t g h = refl
first_kept (x ∷ xs) t g h = h

first_only : (xs : List ℕ) (t g : ℕ) → length xs ≡ 0 → get_or (xs ++ t ∷ []) 0 g ≡ g → t ≡ g
first_only [] t g e h = h
first_only (x ∷ xs) t g e h = absurd (omega arith)

some_from : (o : Option ℕ) → (o ≡ None → ⊥) → (j : ℕ) × (o ≡ Some j)
some_from None h = absurd (h refl)
some_from (Some j) h = (j, refl)

module _ (leads : ℕ → CellStep) (n goal : ℕ) where
  -- open cells have no number, and done cells their places
  pub record Walking (numbers : List (Option ℕ)) (stack order : List ℕ) : Type 0 where
    pub acyclic : Acyclic leads n
    pub small : n ≤ 32768
    pub long : length numbers ≡ 32768
    pub room : length stack + length order ≤ n
    pub open_in : All (λ c. c < n) stack
    pub open_un : All (λ c. number_in numbers c ≡ None) stack
    pub open_reached : All (Reached leads goal) stack
    pub chain : AllPairs (λ b c. acyclic.rank c < acyclic.rank b) stack
    pub done_in : All (λ c. c < n) order
    pub done_reached : All (Reached leads goal) order
    pub done_num : (k : ℕ) → k < length order → number_in numbers (get_or order k 0) ≡ Some k
    pub num_done : (c k : ℕ) → number_in numbers c ≡ Some k → (k < length order) × (get_or order k 0 ≡ c)
    pub done_first : (k p : ℕ) → k < length order → Premise (leads (get_or order k 0)) p → (j : ℕ) × (j < k) × (number_in numbers p ≡ Some j)
    pub at_goal : get_or stack 0 goal ≡ goal
    pub ended : length stack ≡ 0 → (0 < length order) × (get_or order (length order - 1) 0 ≡ goal)

  -- the open cells and those that are done are all different
  fits : (a : Acyclic leads n) (numbers : List (Option ℕ)) (stack order : List ℕ) → All (λ c. c < n) stack → All (λ c. number_in numbers c ≡ None) stack → AllPairs (λ b c. a.rank c < a.rank b) stack → All (λ c. c < n) order → ((k : ℕ) → k < length order → number_in numbers (get_or order k 0) ≡ Some k) → length stack + length order ≤ n
  fits a numbers stack order low un chain done_low num = omega (arith, few_below n (stack ++ order) apart (All-append (λ c. c < n) stack order low done_low), length-append stack order)
    where
      left : (k d : ℕ) → k < length stack → get_or (stack ++ order) k d ≡ get_or stack k d
      left k d h = get_or_append_left stack order d k h

      right : (k d : ℕ) → length stack ≤ k → k < length (stack ++ order) → number_in numbers (get_or (stack ++ order) k d) ≡ Some (k - length stack)
      right k d h l =
          let low : k - length stack < length order = omega (arith, length-append stack order) in
          ap (number_in numbers) (get_or-append_right stack order (length stack) k d refl h ∙ get_or_default order (k - length stack) d 0 low) ∙ num (k - length stack) low

      by : (i j d : ℕ) → i < j → j < length (stack ++ order) → (i < length stack) ⊎ (length stack ≤ i) → (j < length stack) ⊎ (length stack ≤ j) → get_or (stack ++ order) i d ≡ get_or (stack ++ order) j d → ⊥
      by i j d h l (inl i_in) (inl j_in) e =
          let q = ap a.rank (sym (left i d i_in) ∙ e ∙ left j d j_in) in
          omega (arith, q, chain i j d h j_in)
      by i j d h l (inl i_in) (inr b) e =
          let q : None ≡ Some (j - length stack) = sym (un i d i_in) ∙ ap (number_in numbers) (sym (left i d i_in) ∙ e) ∙ right j d b l in cc
      by i j d h l (inr i_off) (inl j_in) e = absurd (omega arith)
      by i j d h l (inr i_off) (inr j_off) e =
          let q : Some (i - length stack) ≡ Some (j - length stack) = sym (right i d i_off (omega arith)) ∙ ap (number_in numbers) e ∙ right j d j_off l in
          let same : i - length stack ≡ j - length stack = cc in
          omega arith

      apart : AllPairs (λ a b. a ≢ b) (stack ++ order)
      apart i j d h l = by i j d h l (cases_lt i (length stack)) (cases_lt j (length stack))

  pub start : (numbers : List (Option ℕ)) → length numbers ≡ 32768 → ((c : ℕ) → number_in numbers c ≡ None) → Acyclic leads n → n ≤ 32768 → goal < n → Walking numbers (goal ∷ []) []
  start numbers long none a small inside = record {
    acyclic = a;
    small = small;
    long = long;
    room = omega arith;
    open_in = All-push (λ c. c < n) [] goal (All-nil (λ c. c < n)) inside;
    open_un = All-push (λ c. number_in numbers c ≡ None) [] goal (All-nil (λ c. number_in numbers c ≡ None)) (none goal);
    open_reached = All-push (Reached leads goal) [] goal (All-nil (Reached leads goal)) here;
    chain = λ i j d h l. absurd (omega arith);
    done_in = All-nil (λ c. c < n);
    done_reached = All-nil (Reached leads goal);
    done_num = λ k h. absurd (omega arith);
    num_done = λ c k e. let q : None ≡ Some k = sym (none c) ∙ e in cc;
    done_first = λ k p h. absurd (omega arith);
    at_goal = refl;
    ended = λ e. absurd (omega arith);
  }

  module _ {numbers : List (Option ℕ)} (rest : List ℕ) (top : ℕ) {order : List ℕ} (w : Walking numbers (rest ++ top ∷ []) order) where
    top_in : top < n
    top_in = (All-pop (λ c. c < n) (rest ++ top ∷ []) rest (Some top) refl w.open_in).1

    pub push : (p : ℕ) → Premise (leads top) p → number_in numbers p ≡ None → Walking numbers (rest ++ top ∷ [] ++ p ∷ []) order
    push p premise un =
        let stack = rest ++ top ∷ [] in
        let lower = w.acyclic.falls top p top_in premise in
        let open_in = All-push (λ c. c < n) stack p w.open_in (w.acyclic.inside top p top_in premise) in
        let open_un = All-push (λ c. number_in numbers c ≡ None) stack p w.open_un un in
        let above = All-push (λ b. w.acyclic.rank p < w.acyclic.rank b) rest top (λ k d h. omega (arith, lower, pairs_last (λ b c. w.acyclic.rank c < w.acyclic.rank b) rest top w.chain k d h)) lower in
        let chain = all_pairs_push (λ b c. w.acyclic.rank c < w.acyclic.rank b) stack p w.chain above in
        record {
          acyclic = w.acyclic;
          small = w.small;
          long = w.long;
          room = fits w.acyclic numbers (stack ++ p ∷ []) order open_in open_un chain w.done_in w.done_num;
          open_in = open_in;
          open_un = open_un;
          open_reached = All-push (Reached leads goal) stack p w.open_reached (onward ((All-pop (Reached leads goal) (rest ++ top ∷ []) rest (Some top) refl w.open_reached).1) premise);
          chain = chain;
          done_in = w.done_in;
          done_reached = w.done_reached;
          done_num = w.done_num;
          num_done = w.num_done;
          done_first = w.done_first;
          at_goal = get_or_append_left stack (p ∷ []) goal 0 (omega (arith, length_push rest top)) ∙ w.at_goal;
          ended = λ e. absurd (omega (arith, length_push stack p));
        }

    -- every premise of the top has its number
    pub emit : ((p : ℕ) → Premise (leads top) p → number_in numbers p ≡ None → ⊥) → Walking (set numbers top (Some (length order))) rest (order ++ top ∷ [])
    emit closed =
        let within : top < length numbers = omega (arith, w.long, w.small, top_in) in
        let made : number_in (set numbers top (Some (length order))) top ≡ Some (length order) = get_or-set_same numbers top (Some (length order)) None within in
        let top_un = (All-pop (λ c. number_in numbers c ≡ None) (rest ++ top ∷ []) rest (Some top) refl w.open_un).1 in
        let other : (c : ℕ) → c ≢ top → number_in (set numbers top (Some (length order))) c ≡ number_in numbers c = λ c ne. get_or-set_other numbers top c (Some (length order)) None ne in
        let kept : (c k : ℕ) → number_in numbers c ≡ Some k → number_in (set numbers top (Some (length order))) c ≡ Some k =
        λ c k e. other c (λ is. let q : None ≡ Some k = sym top_un ∙ ap (number_in numbers) (sym is) ∙ e in cc) ∙ e in
        record {
          acyclic = w.acyclic;
          small = w.small;
          long = length-set numbers top (Some (length order)) ∙ w.long;
          room = omega (arith, w.room, length_push rest top, length_push order top);
          open_in = (All-pop (λ c. c < n) (rest ++ top ∷ []) rest (Some top) refl w.open_in).0;
          open_un = λ k d h.
              other (get_or rest k d) (λ e. let q = ap w.acyclic.rank e in omega (arith, q, pairs_last (λ b c. w.acyclic.rank c < w.acyclic.rank b) rest top w.chain k d h))
              ∙ (All-pop (λ c. number_in numbers c ≡ None) (rest ++ top ∷ []) rest (Some top) refl w.open_un).0 k d h;
          open_reached = (All-pop (Reached leads goal) (rest ++ top ∷ []) rest (Some top) refl w.open_reached).0;
          chain = pairs_front (λ b c. w.acyclic.rank c < w.acyclic.rank b) rest top w.chain;
          done_in = All-push (λ c. c < n) order top w.done_in top_in;
          done_reached = All-push (Reached leads goal) order top w.done_reached ((All-pop (Reached leads goal) (rest ++ top ∷ []) rest (Some top) refl w.open_reached).1);
          done_num = each_push (λ k c. number_in (set numbers top (Some (length order))) c ≡ Some k) order top (λ k h. kept (get_or order k 0) k (w.done_num k h)) made;
          num_done = λ c k e. by made other c k e (cases_eq c top);
          done_first = λ k p h. each_push (λ k c. (p : ℕ) → Premise (leads c) p → (j : ℕ) × (j < k) × (number_in (set numbers top (Some (length order))) p ≡ Some j)) order top
              (λ k h p is. let q = w.done_first k p h is in (q.0, q.1, kept p q.0 q.2))
              (λ p is. let q = some_from (number_in numbers p) (closed p is) in (q.0, (w.num_done p q.0 q.1).0, kept p q.0 q.1))
              k h p;
          at_goal = first_kept rest top goal w.at_goal;
          ended = λ e. (omega (arith, length_push order top), get_or_push order top 0 (length (order ++ top ∷ []) - 1) (omega (arith, length_push order top)) ∙ first_only rest top goal e w.at_goal);
        }
      where
        by : number_in (set numbers top (Some (length order))) top ≡ Some (length order) → ((c : ℕ) → c ≢ top → number_in (set numbers top (Some (length order))) c ≡ number_in numbers c) → (c k : ℕ) → number_in (set numbers top (Some (length order))) c ≡ Some k → (c ≡ top) ⊎ (c ≡ top → ⊥) → (k < length (order ++ top ∷ [])) × (get_or (order ++ top ∷ []) k 0 ≡ c)
        by made other c k e (inl is) =
            let q : Some (length order) ≡ Some k = sym made ∙ ap (number_in (set numbers top (Some (length order)))) (sym is) ∙ e in
            let last : length order ≡ k = cc in
            (omega (arith, last, length_push order top), get_or_push order top 0 k last ∙ sym is)
        by made other c k e (inr ne) =
            let r = w.num_done c k (sym (other c ne) ∙ e) in
            (omega (arith, r.0, length_push order top), get_or_append_left order (top ∷ []) 0 k r.0 ∙ r.1)

-- by what the calls of an iteration give
module _ {leads : ℕ → CellStep} {n goal : ℕ} {numbers : List (Option ℕ)} {stack order : List ℕ} (w : Walking leads n goal numbers stack order) {xs : List ℕ} (same : xs ≡ stack) {top : ℕ} (last : Some top ≡ slice_get xs (length xs - 1)) {step : CellStep} (is_step : step ≡ leads top) {found : Option ℕ} (is_found : found ≡ open_premise numbers step) where
  split : stack ≡ take (length stack - 1) stack ++ top ∷ []
  split = from_last stack top (subst (λ s. Some top ≡ slice_get s (length s - 1)) same last)

  split_walk : Walking leads n goal numbers (take (length stack - 1) stack ++ top ∷ []) order
  split_walk = subst (λ s. Walking leads n goal numbers s order) split w

  found_is : open_premise numbers (leads top) ≡ found
  found_is = sym (is_found ∙ ap (open_premise numbers) is_step)

  pub pushed : {p : ℕ} → found ≡ Some p → Walking leads n goal numbers (stack ++ p ∷ []) order
  pushed {p} e =
      let r = open_some numbers (leads top) p (found_is ∙ e) in
      subst (λ s. Walking leads n goal numbers (s ++ p ∷ []) order) (sym split) (push leads n goal (take (length stack - 1) stack) top split_walk p r.0 r.1)

  pub room_for : {p : ℕ} → found ≡ Some p → length stack < 32768
  room_for {p} e = let after = pushed e in omega (arith, after.room, w.small, length_push stack p)

  pub emitted : found ≡ None → {numbers' : List (Option ℕ)} {stack' order' : List ℕ} {k : ℕ} → numbers' ≡ set numbers top (Some k) → k ≡ length order → order' ≡ order ++ top ∷ [] → stack' ≡ take (length stack - 1) stack → Walking leads n goal numbers' stack' order'
  emitted e is_numbers is_k is_order is_stack =
      rw (is_numbers, is_k, is_order, is_stack) (emit leads n goal (take (length stack - 1) stack) top split_walk (open_none numbers (leads top) (found_is ∙ e)))

pub finish : {leads : ℕ → CellStep} {n goal : ℕ} {numbers : List (Option ℕ)} {stack order : List ℕ} → Walking leads n goal numbers stack order → length stack ≤ 0 → Ordered leads n goal numbers order
finish {leads} {n} {goal} {numbers} {stack} {order} w done =
    let e = w.ended (omega arith) in
    record {
      some = e.0;
      few = omega (arith, w.room);
      inside = λ k h. w.done_in k 0 h;
      numbered = w.done_num;
      first = λ k p h is. let q = w.done_first k p h is in (q.0, q.1, q.2, (w.num_done p q.0 q.2).1);
      reached = λ k h. w.done_reached k 0 h;
      last = e.1;
    }
