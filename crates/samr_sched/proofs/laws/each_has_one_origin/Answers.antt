use Rattle.samr_sched.proofs.OneOrigin.{one_origin}
use Rattle.samr_sched.proofs.laws.each_has_one_origin.Goals as goal

pub returns : goal.returns
returns c = λ w h sourced b g x m n has. one_origin w h b g x m n has sourced
