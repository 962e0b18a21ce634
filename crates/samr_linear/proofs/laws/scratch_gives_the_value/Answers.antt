use Rattle.samr_linear.proofs.Insides.{scratch_gives_the_value}
use Rattle.samr_linear.proofs.laws.scratch_gives_the_value.Goals as goal

pub returns : goal.returns
returns c = scratch_gives_the_value
