use Rattle.std.proofs.Common.{◌≡◌, take}
use Rattle.std.specs.Prelude.{All}
use Rattle.samr_box.specs.Vector.{AtMost}
use Rattle.samr_balance.proofs.on_all.solid.Given as goal

abbrev pub invariant-loop-old : goal.invariant-loop-old
invariant-loop-old l = record {
  value : l.list.items ≡ take l.old-index l.boxes;
  solid : All (λ o. AtMost o.bx.lo o.bx.hi) (take l.old-index l.boxes);
}
