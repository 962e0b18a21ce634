use Rattle.std.proofs.Common.{◌≡◌, ◌&&◌, false, take, nat_eq}
use Rattle.std.specs.List.{list_any}
use Rattle.samr_box.specs.Corners.{holds}
use Rattle.samr_mesh_plain.proofs.owners.is_own.Given as goal

abbrev pub invariant-loop-b : goal.invariant-loop-b
invariant-loop-b l = list_any (λ b. nat_eq b.owner l.rank && holds b.bx l.x) (take l.b-index l.level) ≡ false
