-- The law 'clusterings'.
use Rattle.std.proofs.Common.{refl}
use Rattle.samr_mesh.specs.Passes.{clusters_of}
use Rattle.samr_wholes.proofs.PassStages.{is_clustering}
use Rattle.samr_wholes.proofs.laws.clusterings.Goals as goal

pub returns : goal.returns
unfolding clusters_of
returns c = λ p w run. (is_clustering p w run, refl)
