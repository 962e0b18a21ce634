use Rattle.std.proofs.Common.{◌≡◌, ◌∙◌, ap, subst}
use Rattle.std.specs.Prelude.{List}
use Rattle.samr_box.specs.Corners.{Corners}
use Rattle.samr_level.specs.Regions.{Area}
use Rattle.samr_trials_fills.specs.Fills.{filling_over}
use Rattle.samr_trials_fills.specs.Ready.{AreReady}
use Rattle.samr_trials_fills.proofs.prepared.prepare_over.Goals as goal

pub returns : goal.returns
returns c =
    let a : Area = record { frame = c.args.frame; parts = c.args.parts.now } in
    let region : c.in-Some.region ≡ a = c.in-Some.ensures.value ∙ ap (λ (l : List Corners). let v : Area = record { frame = c.args.frame; parts = l } in v) c.in_ok-copied.ensures.items in
    subst (λ (r : Area). AreReady c.in_ok-ready.ready c.args.rules.now (filling_over r c.args.block c.args.step c.args.fine_block c.args.over c.args.ranks c.args.width c.args.bound c.args.fixed.now c.args.rules.now)) region c.in_ok-ready.ensures
