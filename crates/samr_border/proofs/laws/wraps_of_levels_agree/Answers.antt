use Rattle.samr_border.proofs.TurnLaws.{wrapped_coarse, turns_coarse}
use Rattle.samr_border.proofs.laws.wraps_of_levels_agree.Goals as goal

pub returns : goal.returns
returns c = λ d r x h q. (wrapped_coarse d r x h q, turns_coarse d r x q)
