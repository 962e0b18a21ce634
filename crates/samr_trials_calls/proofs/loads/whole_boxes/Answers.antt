use Rattle.std.proofs.Common.{arith, ap, ◌∙◌, ◌++◌, ◌∷◌, []}
use Rattle.samr_load.proofs.PlainSteps.{whole_more}
use Rattle.samr_trials_calls.proofs.loads.whole_boxes.Goals as goal

pub loop-origin-preserved : goal.loop-origin-preserved
loop-origin-preserved c =
    whole_more c.args.boxes.now c.loop-origin.origin-index c.origin-item.result c.loop-origin.list.items _ (omega arith) c.origin-item.is
    c.loop-origin.invariant (c.in_ok-push.ensures.items ∙ ap (λ q. c.loop-origin.list.items ++ q ∷ []) c.whole.ensures)
