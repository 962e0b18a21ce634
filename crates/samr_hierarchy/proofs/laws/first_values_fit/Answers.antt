-- The law 'first_values_fit'.
use Rattle.samr_hierarchy.proofs.Fitting.{first_values_fit}
use Rattle.samr_hierarchy.proofs.laws.first_values_fit.Goals as goal

pub returns : goal.returns
returns c = first_values_fit
