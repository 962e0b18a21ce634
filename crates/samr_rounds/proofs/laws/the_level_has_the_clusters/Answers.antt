use Rattle.samr_rounds.proofs.LevelLaws.{level_has}
use Rattle.samr_rounds.proofs.laws.the_level_has_the_clusters.Goals as goal

pub returns : goal.returns
returns c = λ t rule roots level ranks o. level_has t rule roots level ranks o
