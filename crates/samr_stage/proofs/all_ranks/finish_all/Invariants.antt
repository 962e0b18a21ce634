use Rattle.std.proofs.Common.{◌≡◌, length}
use Rattle.samr_stage.specs.Exchange.{AreParts, AreResults}
use Rattle.samr_stage.specs.Mailboxes.{HoldHeard}
use Rattle.samr_stage.proofs.all_ranks.finish_all.Given as goal

abbrev pub invariant-each : goal.invariant-each
invariant-each g l = record {
  len : length l.outs.items ≡ length l.yielded;
  outs : (w : _) → AreParts g.S.Stage.waits g.S.Stage.ranks_of w l.fn.stages.items → HoldHeard (λ box. box.items) (g.S.Stage.says w) (g.S.Stage.ranks_of w) l.fn.boxes.items → AreResults g.S.Stage.gives w l.outs.items;
}
