use Rattle.samr_verify.proofs.OneMeaning.{one_meaning}
use Rattle.samr_verify.proofs.text_laws.meanings_are_one.Goals as goal

pub returns : goal.returns
returns c = λ most text a b small p q. one_meaning most text a b small p q
