use Rattle.source.proofs.Rows.{joins_associate}
use Rattle.source.proofs.joins.Join.new.Goals as goal

pub returns-clause-associates : goal.returns-clause-associates
returns-clause-associates g c = joins_associate
