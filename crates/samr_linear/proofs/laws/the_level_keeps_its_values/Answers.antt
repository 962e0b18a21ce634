use Rattle.samr_linear.proofs.Insides.{the_level_keeps_its_values}
use Rattle.samr_linear.proofs.laws.the_level_keeps_its_values.Goals as goal

pub returns : goal.returns
returns c = the_level_keeps_its_values
