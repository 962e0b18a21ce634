use Rattle.std.proofs.Common.{◌≡◌, false, take}
use Rattle.std.specs.List.{list_any}
use Rattle.samr_box.specs.Corners.{holds}
use Rattle.samr_box.specs.Space.{image}
use Rattle.samr_mesh_plain.proofs.covered.some_image_has.Given as goal

abbrev pub invariant-loop-s : goal.invariant-loop-s
invariant-loop-s l = list_any (λ s. holds (image l.frame l.b s) l.x) (take l.s-index l.shifts) ≡ false
