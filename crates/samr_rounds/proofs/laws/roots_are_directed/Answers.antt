use Rattle.samr_rounds.proofs.DirectedRoots.{each_directed}
use Rattle.samr_rounds.proofs.laws.roots_are_directed.Goals as goal

pub returns : goal.returns
returns c = λ ranks roots b some. each_directed ranks roots b some
