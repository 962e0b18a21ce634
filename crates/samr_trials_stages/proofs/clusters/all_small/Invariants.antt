use Rattle.std.proofs.Common.{take, ◌<◌, ◌^◌}
use Rattle.std.specs.List.{All}
use Rattle.samr_box.specs.Corners.{IsBox, cells_of}
use Rattle.samr_trials_stages.proofs.clusters.all_small.Given as goal

abbrev pub invariant-loop-b : goal.invariant-loop-b
invariant-loop-b l = All (λ b. IsBox b × (cells_of b < 2 ^ 63)) (take l.b-index l.boxes)
