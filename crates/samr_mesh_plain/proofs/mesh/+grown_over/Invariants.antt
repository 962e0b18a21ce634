use Rattle.samr_mesh_plain.proofs.mesh.+grown_over.Given as goal

abbrev pub decreases-grown_over : goal.decreases-grown_over
decreases-grown_over l = l.more
