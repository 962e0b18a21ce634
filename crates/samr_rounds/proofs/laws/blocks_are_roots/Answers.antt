-- The blocks of a box are roots.
use Rattle.samr_rounds.proofs.Rooting.{blocks_are_roots}
use Rattle.samr_rounds.proofs.laws.blocks_are_roots.Goals as goal

pub returns : goal.returns
returns c = λ block b size box few. blocks_are_roots block b size box few
