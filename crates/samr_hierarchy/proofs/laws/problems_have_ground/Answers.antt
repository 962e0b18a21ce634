-- The law 'problems_have_ground'.
use Rattle.samr_hierarchy.proofs.Grounding.{problems_have_ground}
use Rattle.samr_hierarchy.proofs.laws.problems_have_ground.Goals as goal

pub returns : goal.returns
returns c = problems_have_ground
