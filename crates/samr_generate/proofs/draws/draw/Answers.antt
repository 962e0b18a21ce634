use Rattle.samr_generate.proofs.DrawLaws.{next_generator}
use Rattle.samr_generate.proofs.draws.draw.Goals as goal

pub returns-clause-next : goal.returns-clause-next
returns-clause-next c = λ seed n is. next_generator seed n _ _ _ c.next_word.ensures is
