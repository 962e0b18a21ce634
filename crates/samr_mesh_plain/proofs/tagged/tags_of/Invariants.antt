use Rattle.std.proofs.Common.{◌≡◌, take, filter}
use Rattle.samr_mesh.specs.Passes.{tags_in}
use Rattle.samr_mesh_plain.proofs.tagged.tags_of.Given as goal

abbrev pub invariant-loop-x : goal.invariant-loop-x
invariant-loop-x l = l.found.items ≡ filter (tags_in l.fn.problem l.fn.w) (take l.x-index l.cells)
