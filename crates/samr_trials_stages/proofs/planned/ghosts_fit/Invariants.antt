use Rattle.std.proofs.Common.{take}
use Rattle.std.specs.List.{All}
use Rattle.samr_box.specs.Vector.{AtMost}
use Rattle.samr_box.specs.Corners.{IsBox, grown}
use Rattle.samr_trials_stages.proofs.planned.ghosts_fit.Given as goal

abbrev pub invariant-loop-rim : goal.invariant-loop-rim
invariant-loop-rim l = All (λ g. AtMost g l.fn.width × All (λ b. IsBox (grown b.bx g)) l.level) (take l.rim-index l.ghosts)
