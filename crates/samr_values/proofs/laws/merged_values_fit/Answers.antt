use Rattle.samr_values.proofs.ValueLaws.{merged_values_fit}
use Rattle.samr_values.proofs.laws.merged_values_fit.Goals as goal

pub returns : goal.returns
returns c = merged_values_fit
