use Rattle.std.proofs.Common.{◌≡◌, ℕ, Some, None, sym, ap, ◌∙◌, arith}
use Rattle.scale.specs.Order.{none_some, some_is}
use Rattle.source.specs.Shows.{stated}
use Rattle.rules.specs.Cells.{heads}
use Rattle.rules.specs.Tables.{table}
use Rattle.settle.proofs.Rows.{held}
use Rattle.derivation.specs.Explained.{Reasoned}
use Rattle.decision.proofs.Rulings.{goal_weight, denied, granted}
use Rattle.decision.proofs.ruling.rule.Given as given
use Rattle.decision.proofs.ruling.rule.Goals as goal
use Rattle.decision.proofs.ruling.rule.Goals.{After-weight_of-best}

pub weight_of-best-requires-clause-held : goal.weight_of-best-requires-clause-held
weight_of-best-requires-clause-held g c =
    held (heads (stated (g.R.Source.shows c.args.admitted.now.source.now))) c.args.admitted.now.entities _ (c.settle-rounds.auto.latest ∙ c.requires.latest_long) c.args.goal.role c.head_of-head.result c.head_of-head.ensures.number

-- what was found for the goal is its settled weight
found : (g : given.Over) (c : After-weight_of-best g) → c.weight_of-best.result ≡ table g.S.Scale.meaning c.args.admitted.now.entities (stated (g.R.Source.shows c.args.admitted.now.source.now)) c.settle-rounds.result c.args.goal
found g c =
    c.weight_of-best.ensures
    ∙ goal_weight g.S.Scale.meaning g.met.S.Scale.laws c.args.admitted.now.entities (stated (g.R.Source.shows c.args.admitted.now.source.now)) c.args.admitted.now.known c.args.goal c.requires.member c.head_of-head.result c.head_of-head.ensures.number c.settle-rounds.result c.settle-rounds.new.latest c.settle-rounds.ensures.latest

pub returns-in_default : goal.returns-in_default
returns-in_default g c =
    let at = (goal.at.returns-in_default g c).After-weight_of-best in
    record {
      rules = denied g.S.Scale.meaning g.met.S.Scale.laws c.args.admitted.now.entities (stated (g.R.Source.shows c.args.admitted.now.source.now)) c.args.admitted.now.known c.args.goal c.settle-rounds.result c.settle-rounds.ensures.settles c.args.asked None (sym c.in_default.is ∙ found g at) (λ h. none_some (sym h)) c.args.steps.now;
      former = c.settle-rounds.ensures.former;
      latest = c.settle-rounds.ensures.latest;
      reasons = c.settle-rounds.ensures.reasons;
    }

pub returns-then-not-at_least : goal.returns-then-not-at_least
returns-then-not-at_least g c =
    let at = (goal.at.returns-then-not-at_least g c).After-weight_of-best in
    record {
      rules = denied g.S.Scale.meaning g.met.S.Scale.laws c.args.admitted.now.entities (stated (g.R.Source.shows c.args.admitted.now.source.now)) c.args.admitted.now.known c.args.goal c.settle-rounds.result c.settle-rounds.ensures.settles c.args.asked (Some c.in-Some.weight) (sym c.in-Some.is ∙ found g at) (λ h. let z = sym c.if-not-at_least.true ∙ c.at_least.ensures.1 (some_is h) in absurd (let y : ◌≡◌ {A = ℕ} 0 1 = cc in omega arith)) c.args.steps.now;
      former = c.settle-rounds.ensures.former;
      latest = c.settle-rounds.ensures.latest;
      reasons = c.settle-rounds.ensures.reasons;
    }

pub explain-steps-requires : goal.explain-steps-requires
explain-steps-requires g c =
    let at = (goal.at.explain-steps-requires g c).After-weight_of-best in
    record {
      settled = (
        c.settle-rounds.result,
        record { still = c.settle-rounds.ensures.settles.still; are = c.settle-rounds.ensures.reasons; settled = λ e. none_some (sym (sym c.in-Some.is ∙ found g at ∙ e)) },
      );
      room = c.requires.steps_room;
    }

pub returns : goal.returns
returns g c =
    let at = (goal.at.returns g c).After-weight_of-best in
    let is : Some c.in-Some.weight ≡ table g.S.Scale.meaning c.args.admitted.now.entities (stated (g.R.Source.shows c.args.admitted.now.source.now)) c.settle-rounds.result c.args.goal = sym c.in-Some.is ∙ found g at in
    let why : Reasoned g.S.Scale.meaning c.args.admitted.now.entities (stated (g.R.Source.shows c.args.admitted.now.source.now)) c.settle-rounds.new.reasons c.args.goal c.settle-rounds.result = record { still = c.settle-rounds.ensures.settles.still; are = c.settle-rounds.ensures.reasons; settled = λ e. none_some (sym (is ∙ e)) } in
    record {
      rules = granted g.S.Scale.meaning g.met.S.Scale.laws c.args.admitted.now.entities (stated (g.R.Source.shows c.args.admitted.now.source.now)) c.args.admitted.now.known c.args.goal c.settle-rounds.result c.settle-rounds.ensures.settles c.args.asked g.met.S.Scale.chooses c.in-Some.weight is (ap Some (c.at_least.ensures.0 c.if-not-at_least.false)) c.explain-steps.result c.args.steps.now c.explain-steps.new.steps (c.explain-steps.ensures.granted c.settle-rounds.result why, c.explain-steps.ensures.derives c.settle-rounds.result c.in-Some.weight why (sym is));
      former = c.settle-rounds.ensures.former;
      latest = c.settle-rounds.ensures.latest;
      reasons = c.settle-rounds.ensures.reasons;
    }
