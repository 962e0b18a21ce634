use Rattle.std.proofs.Common.{◌≡◌}
use Rattle.samr_mesh.specs.Domains.{ratio_to}
use Rattle.samr_mesh_plain.proofs.domains.ratio_to.Given as goal

abbrev pub invariant-loop-below : goal.invariant-loop-below
invariant-loop-below l = l.ratio ≡ ratio_to l.fn.problem l.below
