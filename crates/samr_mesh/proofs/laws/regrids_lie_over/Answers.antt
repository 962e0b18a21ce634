-- New levels lie over the old ones below them.
use Rattle.samr_mesh.proofs.Remade.{regrids_lie_over}
use Rattle.samr_mesh.proofs.laws.regrids_lie_over.Goals as goal

pub returns : goal.returns
returns c = regrids_lie_over
