-- The law 'hierarchies_agree'.
use Rattle.samr_hierarchy.proofs.Agreeing.{hierarchies_agree}
use Rattle.samr_hierarchy.proofs.laws.hierarchies_agree.Goals as goal

pub returns : goal.returns
returns c = hierarchies_agree
