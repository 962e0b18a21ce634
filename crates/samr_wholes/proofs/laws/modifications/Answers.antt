-- The law 'modifications'.
use Rattle.samr_wholes.proofs.Moves.{is_modifying, news_are_pieces}
use Rattle.samr_wholes.proofs.laws.modifications.Goals as goal

pub returns : goal.returns
returns c = λ p w run. (is_modifying p w run, news_are_pieces p w run)
