-- What the settled weight of the goal says of its derivations.
use Rattle.std.proofs.Common.{◌≡◌, ℕ, zero, suc, ◌<◌, Bool, cond, List, [], ◌∷◌, Some, None, Option, sym, refl, ap, ◌∙◌, subst, arith}
use Rattle.std.proofs.lemmas.Bool.{lt-ltb}
use Rattle.credential.specs.declared.Record.{Record}
use Rattle.credential.specs.declared.Body.{Body}
use Rattle.credential.specs.declared.Body.TheVariants.{Member, Delegation, Link, Intersection}
use Rattle.credential.specs.Same.{Credential}
use Rattle.scale.specs.Scale.{Meaning, Laws, Chooses, AtLeast}
use Rattle.scale.specs.Order.{none_some, some_is}
use Rattle.rules.specs.declared.memberships.Membership.{Membership}
use Rattle.rules.specs.declared.memberships.Step.{Step}
use Rattle.rules.specs.Derivation.{Derivation}
use Rattle.rules.specs.Tables.{table}
use Rattle.rules.specs.Theorems.{MemberBelow, MembersEnrolled}
use Rattle.rules.specs.Cells.{heads, number, weights_after}
use Rattle.rules.proofs.Order.{at_least_trans}
use Rattle.rules.proofs.Steps.{derivations_below, derivation_reaches}
use Rattle.heads.specs.Enrolled.{BodyIn, AllIn}
use Rattle.settle.specs.Entries.{weight_at}
use Rattle.settle.specs.Settled.{Settles}
use Rattle.settle.proofs.Beyond.{shown_table}
use Rattle.decision.specs.declared.verdict.Verdict.TheVariants.{Granted, Denied}
use Rattle.decision.specs.Decided.{Backed, StepsLeft, Verdicts}

member_below : (E : ℕ) (b : Body Record) → BodyIn E b → MemberBelow E b
member_below E (Member x w) h = h
member_below E (Delegation b) h = tt
member_below E (Link b t) h = tt
member_below E (Intersection b c) h = tt

pub members_enrolled : (E : ℕ) (cs : List Credential) → AllIn E cs → MembersEnrolled E cs
members_enrolled E [] known p c e = absurd (none_some e)
members_enrolled E (d ∷ cs) known zero c e = subst (λ (k : Credential). MemberBelow E k.body) (some_is e) (member_below E d.body known.0.body)
members_enrolled E (d ∷ cs) known (suc p) c e = members_enrolled E cs known.1 p c e

module _ {S : Type 0} (M : Meaning S) (laws : Laws M) (E : ℕ) (cs : List Credential) (known : AllIn E cs) (goal : Membership) where
  -- what the list has for the goal is its settled weight
  pub goal_weight : goal.member.0 < E → (head : Option ℕ) → head ≡ number (heads cs) goal.role → (n : ℕ) (ws : List (Option S)) → ws ≡ weights_after M E cs n → weight_at ws E head goal.member.0 ≡ table M E cs n goal
  goal_weight member head at n ws is =
      ap (λ (h : Option ℕ). weight_at ws E h goal.member.0) at
      ∙ ap (λ (vs : List (Option S)). weight_at vs E (number (heads cs) goal.role) goal.member.0) is
      ∙ ap (λ (v : Bool). cond v (weight_at (weights_after M E cs n) E (number (heads cs) goal.role) goal.member.0) None) (sym (lt-ltb goal.member.0 E member))
      ∙ ap (λ (t : Membership → Option S). t goal) (shown_table M laws E cs known n)

  module _ (n : ℕ) (settles : Settles M E cs n) where
    -- every derivation of the goal weighs at most its settled weight
    pub most : (best : Option S) → best ≡ table M E cs n goal → (w : S) (steps : List Step) → Derivation M cs goal w steps → AtLeast M best (Some w)
    most best is w steps d = subst (λ (v : Option S). AtLeast M v (Some w)) (sym is) (derivations_below M laws E cs (members_enrolled E cs known) (table M E cs n) settles.closed goal w steps d)

    -- so a derivation that weighs at least what is asked means that the settled weight does
    pub backed_best : (best : Option S) → best ≡ table M E cs n goal → (asked : S) → Backed M E cs goal asked → AtLeast M best (Some asked)
    backed_best best is asked b = at_least_trans M laws best (Some b.0) (Some asked) (most best is b.0 b.1 b.2) b.3

  pub reached : Chooses M → (n : ℕ) (w : S) → table M E cs n goal ≡ Some w → (asked : S) → AtLeast M (Some w) (Some asked) → Backed M E cs goal asked
  reached chooses n w e asked h = let d = derivation_reaches M laws chooses E cs n goal w e in (w, d.0, d.1, h)

module _ {S : Type 0} (M : Meaning S) (laws : Laws M) (E : ℕ) (cs : List Credential) (known : AllIn E cs) (goal : Membership) (n : ℕ) (settles : Settles M E cs n) (asked : S) where
  -- a settled weight that is not at least what is asked is denied
  pub denied : (best : Option S) → best ≡ table M E cs n goal → (AtLeast M best (Some asked) → ⊥) → (steps : List Step) → Verdicts M E cs goal asked steps steps (Denied best n)
  denied best is less steps = record {
    settles = settles;
    backed = λ e. absurd (let z : ◌≡◌ {A = ℕ} 0 1 = cc in omega arith);
    granted = λ b. absurd (less (backed_best M laws E cs known goal n settles best is asked b));
    weight = is;
    most = most M laws E cs known goal n settles best is;
    steps = refl;
  }

  -- and one that is, is granted
  pub granted : Chooses M → (w : S) → Some w ≡ table M E cs n goal → AtLeast M (Some w) (Some asked) → (k : ℕ) (before after : List Step) → StepsLeft M E cs goal (Granted w k n) before after → Verdicts M E cs goal asked before after (Granted w k n)
  granted chooses w is enough k before after left = record {
    settles = settles;
    backed = λ _. reached M laws E cs known goal chooses n w (sym is) asked enough;
    granted = λ _. refl;
    weight = is;
    most = most M laws E cs known goal n settles (Some w) is;
    steps = left;
  }
