use Rattle.std.proofs.Common.{◌≡◌, ◌≤◌, length, sym, ap, ◌∙◌, subst, ap₂, arith, rules}
use Rattle.std.proofs.lemmas.Bool.{and_parts, ltb-true}
use Rattle.book.specs.Kept.{entities, role_names}
use Rattle.book.proofs.Counts.{few_role_names}
use Rattle.source.specs.Shows.{stated}
use Rattle.rules.specs.Cells.{weights_after, reasons_after}
use Rattle.heads.specs.Enrolled.{RoleIn}
use Rattle.heads.proofs.Admitting.{role_in}
use Rattle.decision.specs.Answers.{rounds_in}
use Rattle.decision.specs.Conditions.{lists, short, many_cells}
use Rattle.decision.specs.Decided.{RuledCells}
use Rattle.decision.proofs.Outcomes.{roomy, fronted, decided}
use Rattle.decision.proofs.deciding.decide_in.Given as given
use Rattle.decision.proofs.deciding.decide_in.Goals as goal
use Rattle.decision.proofs.deciding.decide_in.Goals.{After-cells-need}

-- the cells, by the register and the source
cells : (g : given.Over) (c : After-cells-need g) → c.cells-need.result ≡ many_cells (length (entities c.args.register.now)) (stated (g.R.Source.shows c.args.source.now))
cells g c = c.cells-need.ensures.value ∙ ap₂ (λ s n. many_cells n (stated (g.R.Source.shows s))) c.in_ok-asked.ensures.source c.in_ok-asked.ensures.entities

pub rule-requires : goal.rule-requires
rule-requires g c =
    let known = c.in_ok-asked.ensures in
    let E = length (entities c.args.register.now) in
    let R = length (role_names c.args.register.now) in
    let goal = and_parts _ _ known.enrolled in
    let room = roomy (lists c.args.former.now c.args.latest.now c.args.reasons.now c.args.steps.now) c.cells-need.result c.if-is_short.ensures in
    let value = c.cells-need.ensures.value in
    record {
      role = subst (λ n. RoleIn n c.args.request.goal.role) (sym known.entities) (role_in g.S.Scale.meaning E R (few_role_names c.args.register.now) c.args.request.goal.role goal.0);
      member = omega (arith, known.entities, ltb-true _ _ goal.1);
      former_long = search rules;
      latest_long = search rules;
      reasons_long = search rules;
      steps_room = subst (λ n. n ≤ length c.args.steps.now) value room.3;
    }

pub returns : goal.returns
returns g c =
    let at = (goal.at.returns g c).After-cells-need in
    let known = c.in_ok-asked.ensures in
    let M = g.S.Scale.meaning in
    let xs = g.R.Source.shows c.args.source.now in
    let E = length (entities c.args.register.now) in
    let many = cells g at in
    let need = c.cells-need.result in
    let before = lists c.args.former.now c.args.latest.now c.args.reasons.now c.args.steps.now in
    let after = lists c.rule.new.former c.rule.new.latest c.rule.new.reasons c.rule.new.steps in
    let here = subst (λ s. RuledCells M c.in_ok-asked.admitted.entities (stated (g.R.Source.shows s)) c.args.request.goal c.in_ok-asked.asked c.args.steps.now after c.rule.result) known.source c.rule.ensures in
    let ruled : RuledCells M E (stated xs) c.args.request.goal c.in_ok-asked.asked c.args.steps.now after c.rule.result = subst (λ n. RuledCells M n (stated xs) c.args.request.goal c.in_ok-asked.asked c.args.steps.now after c.rule.result) known.entities here in
    decided M E (length (role_names c.args.register.now)) xs c.args.request.goal c.args.request.threshold before _ c.rule.result c.in_ok-asked.asked
    (sym known.refuses)
    (c.if-is_short.ensures ∙ ap (short before) many)
    known.asks
    record {
      rules = ruled.rules;
      former = fronted c.rule.new.former (weights_after M E (stated xs) (rounds_in c.rule.result)) c.args.former.now need (many_cells E (stated xs)) ruled.former many;
      latest = fronted c.rule.new.latest (weights_after M E (stated xs) (rounds_in c.rule.result)) c.args.latest.now need (many_cells E (stated xs)) ruled.latest many;
      reasons = fronted c.rule.new.reasons (reasons_after M E (stated xs) (rounds_in c.rule.result)) c.args.reasons.now need (many_cells E (stated xs)) ruled.reasons many;
    }
