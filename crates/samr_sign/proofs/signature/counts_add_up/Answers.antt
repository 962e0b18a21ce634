use Rattle.samr_sign.proofs.Sums.{tallies_sum}
use Rattle.samr_sign.proofs.signature.counts_add_up.Goals as goal

pub returns : goal.returns
returns c = λ ts t e b. tallies_sum ts t e b
