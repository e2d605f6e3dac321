use Rattle.derivation.proofs.Reading.{body_known, step_shown}
use Rattle.derivation.proofs.trail.TrailReasons.step_of.Goals as goal

pub premises-first-requires-clause-body : goal.premises-first-requires-clause-body
premises-first-requires-clause-body g c = body_known _ _ _ c.credential-credential.result c.args.self.now.admitted.now.known c.credential-credential.ensures

pub returns : goal.returns
returns g c =
    let a = c.args.self.now.admitted.now in
    step_shown (g.R.Source.shows a.source.now) a.entities c.args.self.now.reasons.now c.args.cell _ c.args.self.now.has_reasons c.requires
    c.credential-credential.result c.credential-credential.ensures c.premises-first.result c.premises-first.ensures
