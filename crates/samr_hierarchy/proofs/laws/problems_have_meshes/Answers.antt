-- The law 'problems_have_meshes'.
use Rattle.samr_hierarchy.proofs.Sounding.{problems_have_meshes}
use Rattle.samr_hierarchy.proofs.laws.problems_have_meshes.Goals as goal

pub returns : goal.returns
returns c = problems_have_meshes
