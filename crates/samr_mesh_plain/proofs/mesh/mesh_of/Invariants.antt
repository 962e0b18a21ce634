use Rattle.std.proofs.Common.{◌≡◌}
use Rattle.samr_mesh.specs.Meshes.{first_mesh, mesh_from}
use Rattle.samr_mesh_plain.proofs.mesh.mesh_of.Given as goal

abbrev pub invariant-loop-before : goal.invariant-loop-before
invariant-loop-before l = l.levels.items ≡ mesh_from l.fn.problem l.fn.ranks 0 (first_mesh l.fn.problem l.fn.ranks) l.before
