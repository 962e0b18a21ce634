use Rattle.samr_balance.proofs.HomeTold.{letters_go_home}
use Rattle.samr_balance.proofs.laws.letters_go_home.Goals as goal

pub returns : goal.returns
returns c = λ w from to. letters_go_home w from to
