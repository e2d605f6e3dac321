use Rattle.words.proofs.Laws.{laws}
use Rattle.words.proofs.part.Part.split.Goals as goal

pub returns-clause-law : goal.returns-clause-law
returns-clause-law c = laws _
