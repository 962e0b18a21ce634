use Rattle.std.proofs.Common.{◌<◌, take}
use Rattle.std.specs.Prelude.{◌^◌}
use Rattle.std.specs.List.{All}
use Rattle.samr_box.specs.Corners.{cells_of}
use Rattle.samr_trials_values.proofs.merges.have_few.Given as goal

abbrev pub invariant-loop-b : goal.invariant-loop-b
invariant-loop-b l = All (λ b. cells_of b.bx < 2 ^ 62) (take l.b-index l.level)
