use Rattle.std.proofs.Common.{◌≡◌, length}
use Rattle.samr_stage.specs.Exchange.{AreParts}
use Rattle.samr_stage.specs.Mailboxes.{HoldHeard, AreTelling}
use Rattle.samr_stage.proofs.all_ranks.gather.Given as goal

abbrev pub invariant-each : goal.invariant-each
invariant-each g l = record {
  same_stages : length l.stages.items ≡ length l.fn.stages.items;
  same_boxes : length l.boxes.items ≡ length l.fn.stages.items;
  stages : (w : _) → AreParts g.S.Stage.starts g.S.Stage.ranks_of w l.fn.stages.items → AreTelling g.S.Stage.starts g.S.Stage.waits w l.sender l.stages.items;
  boxes : (w : _) → AreParts g.S.Stage.starts g.S.Stage.ranks_of w l.fn.stages.items → HoldHeard (λ box. box.items) (g.S.Stage.says w) l.sender l.boxes.items;
}
