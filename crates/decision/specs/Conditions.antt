-- When decide refuses: each condition is tried alone, in this order.
use Rattle.std.specs.Prelude.{ℕ, ◌*◌, Bool, cond, not, ◌&&◌, ◌||◌, List, length, is_some, Some, None, Option, nat_lt}
use Rattle.std.specs.Option.{option_map}
use Rattle.credential.specs.declared.Record.{Record}
use Rattle.credential.specs.Same.{Credential}
use Rattle.scale.specs.Scale.{Meaning}
use Rattle.book.specs.Plain.{first, among, role_enrolled}
use Rattle.source.specs.Shows.{Shown, stated, origin_at}
use Rattle.rules.specs.declared.memberships.Membership.{Membership}
use Rattle.rules.specs.declared.memberships.Reason.{Reason}
use Rattle.rules.specs.declared.memberships.Step.{Step}
use Rattle.rules.specs.Cells.{heads}
use Rattle.heads.specs.Admitted.{bad}
use Rattle.decision.specs.Answers.{Refused, refused, refused_at, refused_for_want_of}

-- what the lent lists hold
pub record Lists (S : Type 0) : Type 0 where
  pub former : List (Option S)
  pub latest : List (Option S)
  pub reasons : List Reason
  pub steps : List Step

abbrev pub lists : {S : Type 0} → List (Option S) → List (Option S) → List Reason → List Step → Lists S
lists a b c d = record { former = a; latest = b; reasons = c; steps = d }

-- some list has fewer than n
abbrev pub short : {S : Type 0} → Lists S → ℕ → Bool
short ls n = nat_lt (length ls.former) n || (nat_lt (length ls.latest) n || (nat_lt (length ls.reasons) n || nat_lt (length ls.steps) n))

-- with E entities and R role names enrolled
abbrev pub goal_enrolled : ℕ → ℕ → Membership → Bool
goal_enrolled E R goal = role_enrolled E R goal.role && nat_lt goal.member.0 E

abbrev pub or_else : {X : Type 0} → Option X → Option X → Option X
or_else None y = y
or_else (Some x) y = Some x

-- how many cells there are
abbrev pub many_cells : ℕ → List Credential → ℕ
many_cells E cs = length (heads cs) * E

module _ {S : Type 0} (M : Meaning S) (E R : ℕ) (goal : Membership) (threshold : Record) (xs : List Shown) where
  -- a goal not enrolled, an unreadable threshold, a source above 512 credentials, the first credential
  -- with a number not enrolled or an unreadable weight
  abbrev pub unfit : Option Refused
  unfit =
      cond (not (goal_enrolled E R goal)) (Some (refused 9))
      (cond (not (is_some (M.threshold threshold))) (Some (refused 12))
      (cond (nat_lt 512 (length xs)) (Some (refused 10))
      (cond (among (bad M E R) (stated xs)) (option_map (refused_at 11) (origin_at xs (first (bad M E R) (stated xs)))) None)))

  -- any list shorter than the cells
  abbrev pub cramped : Lists S → Option Refused
  cramped ls = cond (short ls (many_cells E (stated xs))) (Some (refused_for_want_of 13 (many_cells E (stated xs)))) None

  abbrev pub refusal : Lists S → Option Refused
  refusal ls = or_else unfit (cramped ls)
