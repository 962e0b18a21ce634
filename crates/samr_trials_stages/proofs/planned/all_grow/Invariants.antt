use Rattle.std.proofs.Common.{take}
use Rattle.std.specs.List.{All}
use Rattle.samr_box.specs.Corners.{IsBox, grown}
use Rattle.samr_trials_stages.proofs.planned.all_grow.Given as goal

abbrev pub invariant-loop-b : goal.invariant-loop-b
invariant-loop-b l = All (λ b. IsBox (grown b.bx l.fn.width)) (take l.b-index l.level)
