use Rattle.std.proofs.Common.{◌≡◌, false, take}
use Rattle.std.specs.List.{list_any}
use Rattle.samr_mesh_plain.specs.Making.{covers}
use Rattle.samr_mesh_plain.proofs.covered.some_covers.Given as goal

abbrev pub invariant-loop-b : goal.invariant-loop-b
invariant-loop-b l = list_any (covers l.fn.problem l.fn.w l.fn.x) (take l.b-index l.fine) ≡ false
