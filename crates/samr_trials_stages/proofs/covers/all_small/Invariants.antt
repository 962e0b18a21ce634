use Rattle.std.proofs.Common.{take}
use Rattle.std.specs.List.{All}
use Rattle.samr_tags.specs.Rooms.{IsSmallBox}
use Rattle.samr_trials_stages.proofs.covers.all_small.Given as goal

abbrev pub invariant-loop-b : goal.invariant-loop-b
invariant-loop-b l = All (λ b. IsSmallBox b.bx) (take l.b-index l.level)
