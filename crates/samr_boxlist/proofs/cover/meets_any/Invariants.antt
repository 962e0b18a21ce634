use Rattle.std.proofs.Common.{◌≡◌, false, take}
use Rattle.std.specs.List.{list_any}
use Rattle.samr_box.specs.Corners.{meets}
use Rattle.samr_boxlist.proofs.cover.meets_any.Given as goal

abbrev pub invariant-loop-a : goal.invariant-loop-a
invariant-loop-a l = list_any (λ a. meets a l.b) (take l.a-index l.list) ≡ false
