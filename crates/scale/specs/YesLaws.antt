-- The laws of the scale yes.
use Rattle.std.specs.Prelude.{◌≡◌, Some, None, Option, refl}
use Rattle.std.proofs.Common.{sym, inl, inr}
use Rattle.scale.specs.declared.yes.Yes.{Yes}
use Rattle.scale.specs.Scale.{Meaning, Laws, Chooses, Strict, Solid, better_of, combined}
use Rattle.scale.specs.Order.{none_some}
use Rattle.scale.specs.Yes.{the_yes, yes_meaning}

abbrev m : Meaning Yes
m = yes_meaning

better_comm : (x y : Option Yes) → better_of m x y ≡ better_of m y x
better_comm None None = refl
better_comm None (Some b) = refl
better_comm (Some a) None = refl
better_comm (Some a) (Some b) = refl

better_assoc : (x y z : Option Yes) → better_of m (better_of m x y) z ≡ better_of m x (better_of m y z)
better_assoc None y z = refl
better_assoc (Some a) None z = refl
better_assoc (Some a) (Some b) None = refl
better_assoc (Some a) (Some b) (Some c) = refl

better_full : (x : Option Yes) → better_of m (Some the_yes) x ≡ Some the_yes
better_full None = refl
better_full (Some a) = refl

combine_comm : (x y : Option Yes) → combined m x y ≡ combined m y x
combine_comm None None = refl
combine_comm None (Some b) = refl
combine_comm (Some a) None = refl
combine_comm (Some a) (Some b) = refl

combine_assoc : (x y z : Option Yes) → combined m (combined m x y) z ≡ combined m x (combined m y z)
combine_assoc None y z = refl
combine_assoc (Some a) None z = refl
combine_assoc (Some a) (Some b) None = refl
combine_assoc (Some a) (Some b) (Some c) = refl

combine_full : (x : Option Yes) → combined m (Some the_yes) x ≡ x
combine_full None = refl
combine_full (Some a) = refl

distributes : (x y z : Option Yes) → combined m x (better_of m y z) ≡ better_of m (combined m x y) (combined m x z)
distributes None y z = refl
distributes (Some a) None z = refl
distributes (Some a) (Some b) None = refl
distributes (Some a) (Some b) (Some c) = refl

pub yes_laws : Laws m
yes_laws = record {
  distinct = none_some;
  better_comm = better_comm;
  better_assoc = better_assoc;
  better_none = λ x. refl;
  better_full = better_full;
  combine_comm = combine_comm;
  combine_assoc = combine_assoc;
  combine_none = λ x. refl;
  combine_full = combine_full;
  distributes = distributes;
}

pub yes_chooses : Chooses m
yes_chooses None y = inr refl
yes_chooses (Some a) None = inl refl
yes_chooses (Some a) (Some b) = inl refl

pub yes_strict : Strict m
yes_strict None None z s = absurd (s.1 refl)
yes_strict None (Some b) z s = absurd (none_some (sym s.0))
yes_strict (Some a) None None s = inr (refl, refl)
yes_strict (Some a) None (Some c) s = inl s
yes_strict (Some a) (Some b) z s = absurd (s.1 refl)

pub yes_solid : Solid m
yes_solid a b e = none_some (sym e)
