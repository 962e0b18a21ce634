use Rattle.std.proofs.Common.{◌≡◌, map, take, pos, IsTrue, ◌↔◌}
use Rattle.samr_box.specs.declared.vector.IVec.{IVec}
use Rattle.samr_box.specs.Vector.{alike, AtMost}
use Rattle.samr_box.specs.Corners.{grown}
use Rattle.samr_boxlist.specs.Covers.{held, IsNear}
use Rattle.samr_boxlist.proofs.cover.grown.Given as goal

abbrev pub invariant-loop-a : goal.invariant-loop-a
invariant-loop-a l = record {
  items : l.wider.items ≡ map (λ a. grown a l.w) (take l.a-index l.list);
  cells : AtMost (alike (pos 0)) l.w → (x : IVec) → IsTrue (held x l.wider.items) ↔ IsNear l.w x (take l.a-index l.list);
}
