use Rattle.samr_data.proofs.Patches.{is_its_values}
use Rattle.samr_data.proofs.laws.is_its_values.Goals as goal

pub returns : goal.returns
returns c = is_its_values
