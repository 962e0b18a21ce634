use Rattle.std.proofs.Common.{length}
use Rattle.samr_mesh_plain.proofs.mesh.+renewed_over.Given as goal

abbrev pub decreases-renewed_over : goal.decreases-renewed_over
decreases-renewed_over l = length l.levels.now
