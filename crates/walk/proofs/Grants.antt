-- From the walk's numbers to the steps of a grant.
use Rattle.std.proofs.Common.{◌≡◌, ℕ, zero, suc, ◌+◌, ◌-◌, ◌<◌, eqb, List, [], ◌∷◌, ◌++◌, map, length, get_or, take, drop, set, Some, None, Option, sym, refl, ap, ◌∙◌, subst, ap₂, inl, inr, arith}
use Rattle.std.specs.Option.{unwrap_or}
use Rattle.std.proofs.lemmas.List.{length-take-le, length-map, map_more, drop_more, set-append_right, append_assoc}
use Rattle.std.proofs.lemmas.Bool.{eq-eqb, ne_eqb, cond-true, cond-false}
use Rattle.rules.specs.declared.memberships.Step.{Step}
use Rattle.walk.specs.declared.reasons.CellStep.{CellStep}
use Rattle.walk.specs.Walk.{number_in, Premise, Reached, here, onward, Ordered}
use Rattle.walk.specs.Grant.{number_of, numbered, place_in, place_of, step_in, CellListing, CellGrant}

pub place_is : (xs : List ℕ) (j c : ℕ) → j < length xs → get_or xs j 0 ≡ c → ((i : ℕ) → i < j → get_or xs i 0 ≡ c → ⊥) → place_in xs c ≡ j
unfolding place_in
place_is [] j c h e f = absurd (omega arith)
place_is (x ∷ xs) zero c h e f = cond-true (eqb x c) 0 (suc (place_in xs c)) (eq-eqb x c e)
place_is (x ∷ xs) (suc j) c h e f = cond-false (eqb x c) 0 (suc (place_in xs c)) (ne_eqb x c (f 0 (omega arith))) ∙ ap suc (place_is xs j c (omega arith) e (λ i a. f (suc i) (omega arith)))

pub map_same : {X : Type 0} (f g : ℕ → X) (xs : List ℕ) → ((k : ℕ) → k < length xs → f (get_or xs k 0) ≡ g (get_or xs k 0)) → map f xs ≡ map g xs
map_same f g [] h = refl
map_same f g (x ∷ xs) h = ap₂ (λ a b. a ∷ b) (h 0 (omega arith)) (map_same f g xs (λ k a. h (suc k) (omega arith)))

-- one step more is written
module _ {X : Type 0} (f : ℕ → X) (order : List ℕ) (k : ℕ) (in_order : k < length order) (olds : List X) (room : k < length olds) where
  pub wrote_more : (now : List X) → now ≡ map f (take k order) ++ drop k olds → (x : X) → x ≡ f (get_or order k 0) → set now k x ≡ map f (take (k + 1) order) ++ drop (k + 1) olds
  wrote_more now is x e = let long : length (map f (take k order)) ≡ k = length-map (take k order) f ∙ length-take-le k order (omega arith) in let z : k - k ≡ 0 = omega arith in rw (is, set-append_right (map f (take k order)) (drop k olds) k k x long (omega arith), z, drop_more olds k x room, e, map_more f order k 0 in_order, append_assoc) refl

module _ {leads : ℕ → CellStep} {n goal : ℕ} {numbers : List (Option ℕ)} {order : List ℕ} (o : Ordered leads n goal numbers order) where
  alone : (j k : ℕ) → j < length order → k < length order → get_or order j 0 ≡ get_or order k 0 → j ≡ k
  alone j k a b e = let q : Some j ≡ Some k = sym (o.numbered j a) ∙ ap (number_in numbers) e ∙ o.numbered k b in cc

  complete : (c : ℕ) → Reached leads goal c → (k : ℕ) × (k < length order) × (get_or order k 0 ≡ c)
  complete c here = (length order - 1, omega (arith, o.some), o.last)
  complete c (onward {c = b} r is) =
      let q = complete b r in
      let f = o.first q.0 c q.1 (subst (λ x. Premise (leads x) c) (sym q.2) is) in
      (f.0, omega (arith, f.1, q.1), f.3)

  pub listing : CellListing leads goal order
  listing = record {
    some = o.some;
    once = λ j k a b e. let q = alone j k (omega arith) b e in omega (arith, q);
    premises = λ k p b is. let f = o.first k p b is in (f.0, f.1, f.3);
    reached = o.reached;
    complete = complete;
    last = o.last;
  }

  -- a premise's number is its place
  cited : (k : ℕ) → k < length order → (p : Option ℕ) → ((c : ℕ) → p ≡ Some c → Premise (leads (get_or order k 0)) c) → number_of numbers p ≡ place_of order p
  cited k h None is = refl
  cited k h (Some c) is =
      let f = o.first k c h (is c refl) in
      let low : f.0 < length order = omega (arith, f.1) in
      ap (λ v. unwrap_or v 0) f.2 ∙ sym (place_is order f.0 c low f.3 (λ i a e. let q = alone i f.0 (omega arith) low (e ∙ sym f.3) in omega (arith, q)))

  same_step : (k : ℕ) → k < length order → numbered numbers (leads (get_or order k 0)) ≡ step_in order (leads (get_or order k 0))
  same_step k h =
      let w = leads (get_or order k 0) in
      let make : ℕ → ℕ → Step = λ a b. record { place = w.place; member = w.member; middle = w.middle; first = a; second = b } in
      ap₂ make (cited k h w.first (λ c e. inl e)) (cited k h w.second (λ c e. inr e))

  pub granted : (before after : List Step) → after ≡ map (λ c. numbered numbers (leads c)) order ++ drop (length order) before → CellGrant leads goal before after (length order)
  granted before after is = record {
    order = order;
    listing = listing;
    many = refl;
    written = is ∙ ap (λ a. a ++ drop (length order) before) (map_same (λ c. numbered numbers (leads c)) (λ c. step_in order (leads c)) order same_step);
  }
