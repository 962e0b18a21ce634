-- The law 'bridges'.
use Rattle.samr_wholes.proofs.Bridging.{is_to_itself, is_to_old, is_from_above, is_to_below}
use Rattle.samr_wholes.proofs.laws.bridges.Goals as goal

pub returns-clause-pass : goal.returns-clause-pass
returns-clause-pass c = λ p w run. (is_to_itself p w run, λ next is. is_to_old p w run next is, λ next upper over is. is_from_above p w run next upper over is)

pub returns-clause-below : goal.returns-clause-below
returns-clause-below c = λ p w below l run same lower is. is_to_below p w run below l same lower is
