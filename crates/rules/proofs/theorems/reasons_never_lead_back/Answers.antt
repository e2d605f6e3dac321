use Rattle.rules.proofs.Earning.{never_leads_back, reasons_are_earned}
use Rattle.rules.proofs.theorems.reasons_never_lead_back.Goals as goal

pub returns : goal.returns
returns g c = record { back = never_leads_back g.S.Scale.meaning g.met.S.Scale.laws; earned = reasons_are_earned g.S.Scale.meaning g.met.S.Scale.laws g.met.S.Scale.chooses }
