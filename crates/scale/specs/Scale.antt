-- What a scale is. A weight is an Option, and None is the weight none.
use Rattle.std.specs.Prelude.{◌≡◌, ◌⊎◌, Some, None, Option, ◌≢◌}
use Rattle.credential.specs.declared.Record.{Record}

-- what a scale says of S, its weights other than none
pub record Meaning (S : Type 0) : Type 0 where
  pub full : S
  pub better : S → S → S
  -- None where the two combine to none
  pub combine : S → S → Option S
  -- whether two weights are the same
  pub same : (a b : S) → Dec (a ≡ b)
  -- a record in a credential and in a threshold; None where it is unreadable
  pub credential : Record → Option S
  pub threshold : Record → Option S

module _ {S : Type 0} (m : Meaning S) where
  -- none changes nothing
  abbrev pub better_of : Option S → Option S → Option S
  better_of None y = y
  better_of (Some a) None = Some a
  better_of (Some a) (Some b) = Some (m.better a b)

  -- none makes the result none
  abbrev pub combined : Option S → Option S → Option S
  combined None y = None
  combined (Some a) None = None
  combined (Some a) (Some b) = m.combine a b

  abbrev pub full_weight : Option S
  full_weight = Some m.full

  -- x is at least y
  abbrev pub AtLeast : Option S → Option S → Type 0
  AtLeast x y = better_of x y ≡ x

  -- x is strictly better than y
  abbrev pub Stricter : Option S → Option S → Type 0
  Stricter x y = AtLeast x y × (x ≢ y)

-- what every scale keeps to
pub record Laws {S : Type 0} (m : Meaning S) : Type 0 where
  pub distinct : None ≡ full_weight m → ⊥
  pub better_comm : (x y : Option S) → better_of m x y ≡ better_of m y x
  pub better_assoc : (x y z : Option S) → better_of m (better_of m x y) z ≡ better_of m x (better_of m y z)
  pub better_none : (x : Option S) → better_of m None x ≡ x
  pub better_full : (x : Option S) → better_of m (full_weight m) x ≡ full_weight m
  pub combine_comm : (x y : Option S) → combined m x y ≡ combined m y x
  pub combine_assoc : (x y z : Option S) → combined m (combined m x y) z ≡ combined m x (combined m y z)
  pub combine_none : (x : Option S) → combined m None x ≡ None
  pub combine_full : (x : Option S) → combined m (full_weight m) x ≡ x
  pub distributes : (x y z : Option S) → combined m x (better_of m y z) ≡ better_of m (combined m x y) (combined m x z)

-- better-of gives one of its two arguments
abbrev pub Chooses : {S : Type 0} → Meaning S → Type 0
Chooses {S} m = (x y : Option S) → (better_of m x y ≡ x) ⊎ (better_of m x y ≡ y)

-- two weights in strict order, each combined with a third, stay so unless both results are none
abbrev pub Strict : {S : Type 0} → Meaning S → Type 0
Strict {S} m =
    (x y z : Option S) → Stricter m x y
    → Stricter m (combined m z x) (combined m z y) ⊎ ((combined m z x ≡ None) × (combined m z y ≡ None))

-- two weights other than none never combine to none
abbrev pub Solid : {S : Type 0} → Meaning S → Type 0
Solid {S} m = (a b : S) → m.combine a b ≢ None
