-- Derivations: what a step concludes and weighs, given the steps before it.
use Rattle.std.specs.Prelude.{◌≡◌, ℕ, Bool, cond, ◌&&◌, List, [], ◌∷◌, ◌++◌, Some, None, Option, ◌==◌}
use Rattle.std.specs.List.{slice_get}
use Rattle.credential.specs.declared.Record.{Record}
use Rattle.credential.specs.declared.Body.{Body}
use Rattle.credential.specs.declared.Body.TheVariants.{Member, Delegation, Link, Intersection}
use Rattle.credential.specs.Same.{Credential, same_role}
use Rattle.scale.specs.Scale.{Meaning, combined}
use Rattle.rules.specs.declared.memberships.Membership.{Membership}
use Rattle.rules.specs.declared.memberships.Step.{Step}
use Rattle.rules.specs.Ways.{belongs, role_of}

abbrev pub same_membership : Membership → Membership → Bool
same_membership a b = same_role a.role b.role && a.member.0 == b.member.0

-- what a step concludes, and its weight, which is never none
pub record Concluded (S : Type 0) : Type 0 where
  pub membership : Membership
  pub weight : S

abbrev pub concluded : {S : Type 0} → Membership → S → Concluded S
concluded g w = record { membership = g; weight = w }

abbrev pub exactly : {S : Type 0} → Membership → Option (Concluded S) → Option S
exactly g None = None
exactly g (Some d) = cond (same_membership d.membership g) (Some d.weight) None

-- the weight of the step numbered k, if it concludes exactly g
abbrev pub cited : {S : Type 0} → List (Concluded S) → ℕ → Membership → Option S
cited ds k g = exactly g (slice_get ds k)

module _ {S : Type 0} (M : Meaning S) where
  -- what a step weighs by its credential's body, where ds are the conclusions of the steps before it:
  -- its credential's weight, or its premises' weights combined, a premise cited twice counting twice;
  -- None where a premise does not conclude what the rule needs, in the rule's order, where an unused
  -- field is not 0, and where the weight is none
  abbrev pub by_rule : List (Concluded S) → Body Record → Step → Option S
  by_rule ds (Member x w) s = cond (x.0 == s.member.0 && (s.middle.0 == 0 && (s.first == 0 && s.second == 0))) (M.credential w) None
  by_rule ds (Delegation b) s = cond (s.middle.0 == 0 && s.second == 0) (cited ds s.first (belongs b s.member.0)) None
  by_rule ds (Link b t) s = combined M (cited ds s.first (belongs b s.middle.0)) (cited ds s.second (belongs (role_of s.middle.0 t) s.member.0))
  by_rule ds (Intersection b c) s = cond (s.middle.0 == 0) (combined M (cited ds s.first (belongs b s.member.0)) (cited ds s.second (belongs c s.member.0))) None

  abbrev pub weighed : Membership → Option S → Option (Concluded S)
  weighed g None = None
  weighed g (Some w) = Some (concluded g w)

  -- a step concludes that its member belongs to its credential's head
  abbrev pub by_credential : List (Concluded S) → Step → Option Credential → Option (Concluded S)
  by_credential ds s None = None
  by_credential ds s (Some c) = weighed (belongs c.head s.member.0) (by_rule ds c.body s)

  abbrev pub follow : List Credential → List (Concluded S) → Step → Option (Concluded S)
  follow cs ds s = by_credential ds s (slice_get cs s.place)

  -- each step follows from those before it, and these are their conclusions
  pub data Stands (cs : List Credential) : List Step → List (Concluded S) → Type 0 where
    no_step : Stands cs [] []
    one_more : {ss : List Step} {ds : List (Concluded S)} (s : Step) (d : Concluded S) → Stands cs ss ds → follow cs ds s ≡ Some d → Stands cs (ss ++ s ∷ []) (ds ++ d ∷ [])

  -- one or more steps, the last of which concludes the goal with the weight w
  pub record Derivation (cs : List Credential) (goal : Membership) (w : S) (steps : List Step) : Type 0 where
    pub before : List Step
    pub told : List (Concluded S)
    pub last : Step
    pub are : steps ≡ before ++ last ∷ []
    pub stands : Stands cs before told
    pub concludes : follow cs told last ≡ Some (concluded goal w)
