use Rattle.std.proofs.Common.{refl, rules}
use Rattle.heads.proofs.Numbering.{index_none}
use Rattle.heads.proofs.index.HeadIndex.new.Goals as goal

pub returns : goal.returns
returns c = search (rules, index_none 2048 refl)
