use Rattle.samr_load.proofs.BalancedLevels.{balanced_level}
use Rattle.samr_load.proofs.laws.levels_stay_levels.Goals as goal

pub returns : goal.returns
returns c = λ area ranks smallest boxes some level. balanced_level area ranks smallest boxes some level
