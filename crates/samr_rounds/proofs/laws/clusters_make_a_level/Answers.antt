use Rattle.samr_rounds.proofs.LevelLaws.{level_is}
use Rattle.samr_rounds.proofs.laws.clusters_make_a_level.Goals as goal

pub returns : goal.returns
returns c = λ area t rule roots level ranks some nodes apart inside. level_is area t rule roots level ranks some nodes apart inside
