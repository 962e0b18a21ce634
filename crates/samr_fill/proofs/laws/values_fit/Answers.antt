use Rattle.samr_fill.proofs.ValuesFit.{values_fit}
use Rattle.samr_fill.proofs.laws.values_fit.Goals as goal

pub returns : goal.returns
returns c = λ w n r b x is here mb fixed about. values_fit w n r b x is here mb fixed about
