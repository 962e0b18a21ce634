use Rattle.samr_values.proofs.ValueLaws.{others_keep_theirs}
use Rattle.samr_values.proofs.laws.others_keep_theirs.Goals as goal

pub returns : goal.returns
returns c = others_keep_theirs
