use Rattle.samr_border.proofs.TurnLaws.{turns_home}
use Rattle.samr_border.proofs.laws.turns_lead_home.Goals as goal

pub returns : goal.returns
returns c = λ d x h near. turns_home d x h near
