use Rattle.std.proofs.Common.{◌≡◌, take, filter}
use Rattle.samr_tags.specs.Buffer.{is_shaped}
use Rattle.samr_mesh.specs.Passes.{tagging}
use Rattle.samr_mesh_plain.proofs.shaped.shaped_of.Given as goal

abbrev pub invariant-loop-x : goal.invariant-loop-x
invariant-loop-x l = l.shaped.items ≡ filter (is_shaped (tagging l.fn.problem l.fn.w)) (take l.x-index l.cells)
