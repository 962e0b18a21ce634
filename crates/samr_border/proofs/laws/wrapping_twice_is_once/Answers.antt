use Rattle.samr_border.proofs.TurnLaws.{wrapped_twice}
use Rattle.samr_border.proofs.laws.wrapping_twice_is_once.Goals as goal

pub returns : goal.returns
returns c = λ d x h. wrapped_twice d x h
