use Rattle.samr_data.proofs.Patches.{keeps_others}
use Rattle.samr_data.proofs.laws.keeps_others.Goals as goal

pub returns : goal.returns
returns c = keeps_others
