use Rattle.samr_balance.proofs.Unvisited.{stays_up, stays_down}
use Rattle.samr_balance.proofs.laws.hands_stay.Goals as goal

pub returns-clause-up : goal.returns-clause-up
returns-clause-up c = λ w rank inside quiet. stays_up w rank inside quiet

pub returns-clause-down : goal.returns-clause-down
returns-clause-down c = λ w rank inside quiet. stays_down w rank inside quiet
