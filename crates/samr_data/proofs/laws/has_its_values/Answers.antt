use Rattle.samr_data.proofs.Patches.{has_its_values}
use Rattle.samr_data.proofs.laws.has_its_values.Goals as goal

pub returns : goal.returns
returns c = has_its_values
