-- What decide answers and leaves where it does not refuse.
use Rattle.std.specs.Prelude.{◌≡◌, ℕ, Bool, true, false, List, ◌++◌, take, drop, Some, Ok, Err, Result}
use Rattle.credential.specs.declared.Record.{Record}
use Rattle.credential.specs.Same.{Credential}
use Rattle.scale.specs.Scale.{Meaning, AtLeast}
use Rattle.source.specs.Shows.{Shown, stated}
use Rattle.rules.specs.declared.memberships.Membership.{Membership}
use Rattle.rules.specs.declared.memberships.Step.{Step}
use Rattle.rules.specs.Cells.{weights_after, reasons_after}
use Rattle.rules.specs.Derivation.{Derivation}
use Rattle.rules.specs.Grants as grants
use Rattle.rules.specs.Tables.{table}
use Rattle.settle.specs.Settled.{Settles}
use Rattle.decision.specs.declared.verdict.Verdict.{Verdict}
use Rattle.decision.specs.declared.verdict.Verdict.TheVariants.{Granted, Denied}
use Rattle.decision.specs.declared.verdict.DecideRefusal.{DecideRefusal}
use Rattle.decision.specs.Answers.{weight_in, rounds_in, refusal_in}
use Rattle.decision.specs.Conditions.{Lists, many_cells, refusal}

abbrev pub is_granted : {S : Type 0} → Verdict S → Bool
is_granted (Granted w k n) = true
is_granted (Denied b n) = false

-- with E entities enrolled
module _ {S : Type 0} (M : Meaning S) (E : ℕ) (cs : List Credential) (goal : Membership) where
  -- some derivation of the goal weighs at least what is asked
  abbrev pub Backed : S → Type 0
  Backed asked = (w : S) × (steps : List Step) × Derivation M cs goal w steps × AtLeast M (Some w) (Some asked)

  -- a grant writes the steps that the reasons lead to from the goal, which are a derivation of the goal
  -- with the weight that is reported; a denial leaves the step list as it was
  abbrev pub StepsLeft : Verdict S → List Step → List Step → Type 0
  StepsLeft (Granted w k n) before after = grants.Granted M E cs n goal before after k × Derivation M cs goal w (take k after)
  StepsLeft (Denied b n) before after = after ≡ before

  -- what is ruled, and the steps that are left
  pub record Verdicts (asked : S) (before after : List Step) (v : Verdict S) : Type 0 where
    -- the rounds of the definition, after which the table is the least closed one
    pub settles : Settles M E cs (rounds_in v)
    -- it grants exactly when some derivation of the goal weighs at least what is asked
    pub backed : is_granted v ≡ true → Backed asked
    pub granted : Backed asked → is_granted v ≡ true
    -- the weight is the goal's settled one, and every derivation of the goal weighs at most as much
    pub weight : weight_in v ≡ table M E cs (rounds_in v) goal
    pub most : (w : S) (steps : List Step) → Derivation M cs goal w steps → AtLeast M (weight_in v) (Some w)
    pub steps : StepsLeft v before after

  pub record Ruled (asked : S) (before after : Lists S) (v : Verdict S) : Type 0 where
    pub rules : Verdicts asked before.steps after.steps v
    -- the final table and the reasons begin their lists, and all beyond is unchanged
    pub former : after.former ≡ weights_after M E cs (rounds_in v) ++ drop (many_cells E cs) before.former
    pub latest : after.latest ≡ weights_after M E cs (rounds_in v) ++ drop (many_cells E cs) before.latest
    pub reasons : after.reasons ≡ reasons_after M E cs (rounds_in v) ++ drop (many_cells E cs) before.reasons

  -- the same on lists that are as long as the cells: for the inner function
  pub record RuledCells (asked : S) (before : List Step) (after : Lists S) (v : Verdict S) : Type 0 where
    pub rules : Verdicts asked before after.steps v
    pub former : after.former ≡ weights_after M E cs (rounds_in v)
    pub latest : after.latest ≡ weights_after M E cs (rounds_in v)
    pub reasons : after.reasons ≡ reasons_after M E cs (rounds_in v)

-- with E entities and R role names enrolled
module _ {S : Type 0} (M : Meaning S) (E R : ℕ) (xs : List Shown) (goal : Membership) (threshold : Record) where
  pub record Decided (before after : Lists S) (r : Result (Verdict S) DecideRefusal) : Type 0 where
    -- it refuses exactly by the conditions, in their order, and then leaves all memory as it was
    pub refuses : refusal_in r ≡ refusal M E R goal threshold xs before
    pub keeps : (e : DecideRefusal) → r ≡ Err e → after ≡ before
    -- otherwise it rules, by the threshold as the scale reads it
    pub rules : (v : Verdict S) → r ≡ Ok v → (asked : S) × (M.threshold threshold ≡ Some asked) × Ruled M E (stated xs) goal asked before after v
