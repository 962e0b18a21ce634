use Rattle.std.proofs.Common.{◌∙◌, ap, ◌++◌, ◌∷◌, [], arith}
use Rattle.samr_load.proofs.PlainSteps.{solid_more}
use Rattle.samr_balance.proofs.OnAllLaws.{list_again}
use Rattle.samr_balance.proofs.on_all.solid.Goals as goal

pub loop-old-preserved : goal.loop-old-preserved
loop-old-preserved c = record {
  value =
      list_again c.args.boxes.now c.loop-old.old-index c.old-item.result c.loop-old.list.items _ (omega arith) c.old-item.is c.loop-old.invariant.value
      (c.in_ok-push.ensures.items ∙ ap (λ q. c.loop-old.list.items ++ q ∷ []) c.seen.ensures.value);
  solid =
      solid_more c.args.boxes.now c.loop-old.old-index c.old-item.result (omega arith) c.old-item.is c.loop-old.invariant.solid
      c.seen.ensures.solid;
}
