use Rattle.samr_load.proofs.QuotaSums.{quotas_all}
use Rattle.samr_load.proofs.laws.quotas_add_up.Goals as goal

pub returns : goal.returns
returns c = λ cells ranks some. quotas_all cells ranks some
