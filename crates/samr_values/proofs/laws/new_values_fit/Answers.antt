use Rattle.samr_values.proofs.ValueLaws.{new_values_fit}
use Rattle.samr_values.proofs.laws.new_values_fit.Goals as goal

pub returns : goal.returns
returns c = new_values_fit
