-- The laws of the scale of pairs: better-of gives the higher of two pairs in a total order, which
-- combining keeps if the first scale is strict and the second solid.
use Rattle.std.specs.Prelude.{◌≡◌, ◌⊎◌, Some, None, Option, ◌≢◌, refl}
use Rattle.std.proofs.Common.{sym, ap, ap₂, subst, ◌∙◌, inl, inr}
use Rattle.std.proofs.Math.Logic.{if_pos, if_neg}
use Rattle.scale.specs.declared.pair.Pair.{Pair}
use Rattle.scale.specs.Same.{pair_is}
use Rattle.scale.specs.Scale.{Meaning, Laws, Chooses, Strict, Solid, better_of, combined, full_weight, Stricter}
use Rattle.scale.specs.Order.{none_some, some_is, weight_same, Le, le_trans, le_antisym, le_total, le_combined}
use Rattle.scale.specs.Pair.{both, pair_meaning}
use Rattle.scale.specs.TotalOrder.{best_comm, best_chooses, best_assoc, best_through}

-- a weight's parts
module _ {A B : Type 0} where
  abbrev fst : Option (Pair A B) → Option A
  fst None = None
  fst (Some p) = Some p.first

  abbrev snd : Option (Pair A B) → Option B
  snd None = None
  snd (Some p) = Some p.second

  both_parts : (x : Option (Pair A B)) → both (fst x) (snd x) ≡ x
  both_parts None = refl
  both_parts (Some p) = refl

  both_none : (x : Option A) → both {A = A} {B = B} x None ≡ None
  both_none None = refl
  both_none (Some a) = refl

  fst_both : (x : Option A) (y : Option B) → (y ≢ None) → fst (both x y) ≡ x
  fst_both None y n = refl
  fst_both (Some a) None n = absurd (n refl)
  fst_both (Some a) (Some b) n = refl

  snd_both : (a : A) (y : Option B) → snd (both (Some a) y) ≡ y
  snd_both a None = refl
  snd_both a (Some b) = refl

module _ {A B : Type 0} (ma : Meaning A) (mb : Meaning B) (la : Laws ma) (lb : Laws mb) (ca : Chooses ma) (cb : Chooses mb) where
  abbrev pm : Meaning (Pair A B)
  pm = pair_meaning ma mb

  -- x is no better than y: its first part is worse, or they are equal and its second is no better
  abbrev Below : Option (Pair A B) → Option (Pair A B) → Type 0
  Below x y = Stricter ma (fst y) (fst x) ⊎ ((fst x ≡ fst y) × Le mb (snd x) (snd y))

  -- combining goes part by part
  combined_parts : (x y : Option (Pair A B)) → combined pm x y ≡ both (combined ma (fst x) (fst y)) (combined mb (snd x) (snd y))
  combined_parts None y = refl
  combined_parts (Some p) None = refl
  combined_parts (Some p) (Some q) = refl

  combined_both : (x : Option A) (y : Option B) (u : Option A) (w : Option B)
      → both (combined ma (fst (both x y)) u) (combined mb (snd (both x y)) w) ≡ both (combined ma x u) (combined mb y w)
  combined_both None y u w = refl
  combined_both (Some a) None u w = sym (both_none (combined ma (Some a) u))
  combined_both (Some a) (Some b) u w = refl

  comm : (x y : Option (Pair A B)) → combined pm x y ≡ combined pm y x
  comm x y =
      combined_parts x y ∙ ap₂ both (la.combine_comm (fst x) (fst y)) (lb.combine_comm (snd x) (snd y)) ∙ sym (combined_parts y x)

  -- the three parts, the first two combined first
  three : (x y z : Option (Pair A B)) → combined pm (combined pm x y) z
      ≡ both (combined ma (combined ma (fst x) (fst y)) (fst z)) (combined mb (combined mb (snd x) (snd y)) (snd z))
  three x y z =
      combined_parts (combined pm x y) z
      ∙ ap (λ w. both (combined ma (fst w) (fst z)) (combined mb (snd w) (snd z))) (combined_parts x y)
      ∙ combined_both (combined ma (fst x) (fst y)) (combined mb (snd x) (snd y)) (fst z) (snd z)

  assoc : (x y z : Option (Pair A B)) → combined pm (combined pm x y) z ≡ combined pm x (combined pm y z)
  assoc x y z =
      three x y z
      ∙ ap₂ both (la.combine_assoc (fst x) (fst y) (fst z) ∙ la.combine_comm (fst x) (combined ma (fst y) (fst z)))
      (lb.combine_assoc (snd x) (snd y) (snd z) ∙ lb.combine_comm (snd x) (combined mb (snd y) (snd z)))
      ∙ sym (three y z x)
      ∙ comm (combined pm y z) x

  full_changes_nothing : (x : Option (Pair A B)) → combined pm (full_weight pm) x ≡ x
  full_changes_nothing x =
      combined_parts (full_weight pm) x ∙ ap₂ both (la.combine_full (fst x)) (lb.combine_full (snd x)) ∙ both_parts x

  -- the order is total and transitive
  total : (x y : Option (Pair A B)) → Below x y ⊎ Below y x
  total x y = by (weight_same ma (fst x) (fst y)) (le_total ma la ca (fst x) (fst y)) (le_total mb lb cb (snd x) (snd y))
    where
      by : Dec (fst x ≡ fst y) → Le ma (fst x) (fst y) ⊎ Le ma (fst y) (fst x) → Le mb (snd x) (snd y) ⊎ Le mb (snd y) (snd x) → Below x y ⊎ Below y x
      by (yes e) d (inl h) = inl (inr (e, h))
      by (yes e) d (inr h) = inr (inr (sym e, h))
      by (no n) (inl h) k = inl (inl (h, λ e. n (sym e)))
      by (no n) (inr h) k = inr (inl (h, n))

  -- strictly better, and then at least as good
  join_left : (x y z : Option A) → Stricter ma y x → Le ma y z → Stricter ma z x
  join_left x y z h k = (le_trans ma la x y z h.0 k, λ e. h.1 (le_antisym ma la y x (subst (λ (w : Option A). Le ma y w) e k) h.0))

  trans : (x y z : Option (Pair A B)) → Below x y → Below y z → Below x z
  trans x y z (inl h) (inl k) = inl (join_left (fst x) (fst y) (fst z) h k.0)
  trans x y z (inl h) (inr k) = inl (subst (λ (w : Option A). Stricter ma w (fst x)) k.0 h)
  trans x y z (inr h) (inl k) = inl (subst (λ (w : Option A). Stricter ma (fst z) w) (sym h.0) k)
  trans x y z (inr h) (inr k) = inr (h.0 ∙ k.0, le_trans mb lb (snd x) (snd y) (snd z) h.1 k.1)

  never_none : (x : Option A) → Stricter ma None x → ⊥
  never_none None h = h.1 refl
  never_none (Some a) h = none_some (sym h.0)

  -- better-of gives the higher
  up : (x y : Option (Pair A B)) → Below x y → better_of pm x y ≡ y
  up None y h = refl
  up (Some p) None (inl h) = absurd (never_none (Some p.first) h)
  up (Some p) None (inr h) = absurd (none_some (sym h.0))
  up (Some p) (Some q) (inl h) =
      let won : ma.better p.first q.first ≡ q.first = some_is (la.better_comm (Some p.first) (Some q.first) ∙ h.0) in
      ap Some
      (if_neg (ma.same p.first q.first) (λ e. h.1 (ap Some (sym e))) _ _
      ∙ if_neg (ma.same (ma.better p.first q.first) p.first) (λ e. h.1 (ap Some (sym won ∙ e))) _ _)
  up (Some p) (Some q) (inr h) =
      let won : mb.better p.second q.second ≡ q.second = some_is (lb.better_comm (Some p.second) (Some q.second) ∙ h.1) in
      ap Some (if_pos (ma.same p.first q.first) (some_is h.0) _ _ ∙ pair_is _ q (some_is h.0) won)

  down : (x y : Option (Pair A B)) → Below y x → better_of pm x y ≡ x
  down None None h = refl
  down None (Some q) (inl h) = absurd (never_none (Some q.first) h)
  down None (Some q) (inr h) = absurd (none_some (sym h.0))
  down (Some p) None h = refl
  down (Some p) (Some q) (inl h) =
      ap Some
      (if_neg (ma.same p.first q.first) (λ e. h.1 (ap Some e)) _ _
      ∙ if_pos (ma.same (ma.better p.first q.first) p.first) (some_is h.0) _ _)
  down (Some p) (Some q) (inr h) =
      ap Some (if_pos (ma.same p.first q.first) (sym (some_is h.0)) _ _ ∙ pair_is _ p refl (some_is h.1))

  -- full is the highest
  wins : (x : Option (Pair A B)) → Below x (full_weight pm)
  wins x = by (weight_same ma (fst x) (Some ma.full))
    where
      by : Dec (fst x ≡ Some ma.full) → Below x (full_weight pm)
      by (yes e) = inr (e, lb.better_full (snd x))
      by (no n) = inl (la.better_full (fst x), λ e. n (sym e))

  pub pair_chooses : Chooses pm
  pair_chooses = best_chooses Below (better_of pm) total trans up down

  -- combining keeps the order: at one first part, and from a worse first part to a better
  same_second : (a : Option A) (b c : Option B) → Le mb b c → Le mb (snd (both a b)) (snd (both a c))
  same_second None b c h = refl
  same_second (Some a) b c h =
      subst (λ (w : Option B). Le mb w (snd (both (Some a) c))) (sym (snd_both a b)) (subst (λ (w : Option B). Le mb b w) (sym (snd_both a c)) h)

  level : (a : Option A) (b c : Option B) → (b ≢ None) → (c ≢ None) → Le mb b c → Below (both a b) (both a c)
  level a b c nb nc k = inr (fst_both a b nb ∙ sym (fst_both a c nc), same_second a b c k)

  after : (a c : Option A) (b d : Option B) → (b ≢ None) → (d ≢ None) → Stricter ma c a ⊎ ((c ≡ None) × (a ≡ None)) → Below (both a b) (both c d)
  after a c b d nb nd (inl h) =
      inl (subst (λ (w : Option A). Stricter ma w (fst (both a b))) (sym (fst_both c d nd)) (subst (λ (w : Option A). Stricter ma c w) (sym (fst_both a b nb)) h))
  after a c b d nb nd (inr h) =
      subst (λ (w : Option A). Below (both w b) (both c d)) (sym h.1) (subst (λ (w : Option A). Below (both None b) (both w d)) (sym h.0) (inr (refl, refl)))

  -- none is the lowest
  least : (x : Option (Pair A B)) → Below None x
  least None = inr (refl, refl)
  least (Some p) = inl (refl, λ e. none_some (sym e))

  module _ (strict : Strict ma) (solid : Solid mb) where
    mono : (z x y : Option (Pair A B)) → Below x y → Below (combined pm z x) (combined pm z y)
    mono None x y h = inr (refl, refl)
    mono (Some r) None y h = least (combined pm (Some r) y)
    mono (Some r) (Some p) None (inl h) = absurd (never_none (Some p.first) h)
    mono (Some r) (Some p) None (inr h) = absurd (none_some (sym h.0))
    mono (Some r) (Some p) (Some q) (inl h) =
        after (ma.combine r.first p.first) (ma.combine r.first q.first) (mb.combine r.second p.second) (mb.combine r.second q.second)
        (solid r.second p.second) (solid r.second q.second)
        (strict (Some q.first) (Some p.first) (Some r.first) h)
    mono (Some r) (Some p) (Some q) (inr h) =
        let e : ma.combine r.first p.first ≡ ma.combine r.first q.first = ap (ma.combine r.first) (some_is h.0) in
        subst (λ (w : Option A). Below (combined pm (Some r) (Some p)) (both w (mb.combine r.second q.second))) e
        (level (ma.combine r.first p.first) _ _ (solid r.second p.second) (solid r.second q.second)
        (le_combined mb lb (Some r.second) (Some p.second) (Some q.second) h.1))

    pub pair_laws : Laws pm
    pair_laws = record {
      distinct = none_some;
      better_comm = best_comm Below (better_of pm) total trans up down;
      better_assoc = best_assoc Below (better_of pm) total trans up down;
      better_none = λ x. refl;
      better_full = λ x. down (full_weight pm) x (wins x);
      combine_comm = comm;
      combine_assoc = assoc;
      combine_none = λ x. refl;
      combine_full = full_changes_nothing;
      distributes = λ z. best_through Below (better_of pm) total trans up down (combined pm z) (mono z);
    }
