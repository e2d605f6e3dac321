-- What decide answers, each case by its number and values.
use Rattle.std.specs.Prelude.{ℕ, Some, None, Ok, Err, Option, Result}
use Rattle.source.specs.declared.sources.Origin.{Origin}
use Rattle.decision.specs.declared.verdict.Verdict.{Verdict}
use Rattle.decision.specs.declared.verdict.Verdict.TheVariants.{Granted, Denied}
use Rattle.decision.specs.declared.verdict.DecideRefusal.{DecideRefusal}
use Rattle.decision.specs.declared.verdict.DecideRefusal.TheVariants.{GoalNotEnrolled, TooManyCredentials, BadCredential, UnreadableThreshold, ShortList}

abbrev pub number : DecideRefusal → ℕ
number GoalNotEnrolled = 9
number TooManyCredentials = 10
number (BadCredential o) = 11
number UnreadableThreshold = 12
number (ShortList n) = 13

-- a refusal: its number, and what it adds
pub data Refused : Type 0 where
  refused : ℕ → Refused
  refused_at : ℕ → Origin → Refused
  refused_for_want_of : ℕ → ℕ → Refused

abbrev pub told : DecideRefusal → Refused
told GoalNotEnrolled = refused (number GoalNotEnrolled)
told TooManyCredentials = refused (number TooManyCredentials)
told (BadCredential o) = refused_at (number (BadCredential o)) o
told UnreadableThreshold = refused (number UnreadableThreshold)
told (ShortList n) = refused_for_want_of (number (ShortList n)) n

-- the refusal that was answered, if any
abbrev pub refusal_in : {X : Type 0} → Result X DecideRefusal → Option Refused
refusal_in (Ok x) = None
refusal_in (Err e) = Some (told e)

-- the weight that a verdict reports, and its rounds
abbrev pub weight_in : {S : Type 0} → Verdict S → Option S
weight_in (Granted w k n) = Some w
weight_in (Denied b n) = b

abbrev pub rounds_in : {S : Type 0} → Verdict S → ℕ
rounds_in (Granted w k n) = n
rounds_in (Denied b n) = n
