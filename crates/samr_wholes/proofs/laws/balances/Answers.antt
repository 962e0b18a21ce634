-- The law 'balances'.
use Rattle.samr_wholes.proofs.PassStages.{are_homes, is_fair, own_pieces}
use Rattle.samr_wholes.proofs.laws.balances.Goals as goal

pub returns : goal.returns
returns c = λ p w run. (are_homes p w run, is_fair p w run, λ rank below. own_pieces p w run rank below)
