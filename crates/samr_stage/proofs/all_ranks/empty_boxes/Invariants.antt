use Rattle.std.proofs.Common.{◌≡◌, [], length, All}
use Rattle.samr_stage.proofs.all_ranks.empty_boxes.Given as goal

abbrev pub invariant-each : goal.invariant-each
invariant-each g l = (length l.boxes.items ≡ l._rank) × All (λ box. box.items ≡ []) l.boxes.items
