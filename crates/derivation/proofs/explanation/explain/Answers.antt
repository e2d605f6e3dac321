use Rattle.std.proofs.Common.{refl, ap, is_some, sym, ◌∙◌}
use Rattle.source.specs.Shows.{stated}
use Rattle.heads.proofs.Fewer.{few_cells}
use Rattle.derivation.proofs.Trails.{has_reasons, goal_role, goal_member, goal_cell, goal_at, acyclic}
use Rattle.derivation.proofs.Explaining.{ground, explained}
use Rattle.derivation.proofs.explanation.explain.Goals as goal

pub invariant_of-trail : goal.invariant_of-trail
invariant_of-trail g c =
    let a = c.args.admitted.now in
    record { has_reasons = has_reasons (ground g.met.S.Scale.laws g.met.S.Scale.chooses a.known a.short c.requires.settled.1) }

pub cell_of-requires : goal.cell_of-requires
cell_of-requires g c =
    let a = c.args.admitted.now in
    let by = ground g.met.S.Scale.laws g.met.S.Scale.chooses a.known a.short c.requires.settled.1 in
    record { role = goal_role by; member = goal_member by }

pub unwrap-cell-requires : goal.unwrap-cell-requires
unwrap-cell-requires g c =
    let a = c.args.admitted.now in
    let there = goal_cell (ground g.met.S.Scale.laws g.met.S.Scale.chooses a.known a.short c.requires.settled.1) in
    ap is_some (c.cell_of.ensures ∙ there.1)

pub write_grant-requires : goal.write_grant-requires
write_grant-requires g c =
    let a = c.args.admitted.now in
    let by = ground g.met.S.Scale.laws g.met.S.Scale.chooses a.known a.short c.requires.settled.1 in
    record {
      acyclic = acyclic by;
      small = few_cells a.entities _ (stated (g.R.Source.shows a.source.now)) a.few a.short refl;
      inside = (goal_at by c.unwrap-cell.result (sym c.cell_of.ensures ∙ c.unwrap-cell.ensures)).1;
      room = c.requires.room;
    }

pub returns : goal.returns
returns g c =
    let a = c.args.admitted.now in
    explained g.met.S.Scale.laws g.met.S.Scale.chooses a.known a.short c.unwrap-cell.result (sym c.cell_of.ensures ∙ c.unwrap-cell.ensures) c.args.steps.now c.write_grant.new.steps c.write_grant.result c.write_grant.ensures.granted c.write_grant.ensures.few
