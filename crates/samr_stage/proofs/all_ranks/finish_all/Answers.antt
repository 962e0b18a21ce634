use Rattle.std.proofs.Common.{◌≡◌, ℕ, List, length, sym, ap, subst, Some, slice_get, arith}
use Rattle.std.proofs.lemmas.Iterator.{YieldsList-from_zip}
use Rattle.std.proofs.lemmas.Iterator.Adapters.{YieldsList-from_vec}
use Rattle.std.proofs.lemmas.Iterator.Consumers.{YieldsList-turn}
use Rattle.std.proofs.lemmas.List.{length_push}
use Rattle.samr_stage.specs.Exchange.{AreResults}
use Rattle.samr_stage.proofs.Mailboxes.{zip_places, AreResults-more}
use Rattle.samr_stage.proofs.all_ranks.finish_all.Goals as goal
use Rattle.samr_stage.proofs.all_ranks.finish_all.Goals.{In-Some}

-- the stage and the box at hand are those of the rank at hand
at_hand : (g : _) (c : In-Some g) → (slice_get c.args.stages.items (length c.each.yielded) ≡ Some c.in-Some.stage) × (slice_get c.args.boxes.items (length c.each.yielded) ≡ Some c.in-Some.held)
at_hand g c =
    let turn = YieldsList-turn (YieldsList-from_zip (YieldsList-from_vec c.args.stages.items (cc) (cc)) (YieldsList-from_vec c.args.boxes.items (cc) (cc))) c.each.yielded c.each.stage-iterator c.each.yielded_by c.next.result c.next.new.self (c.in-Some.stage, c.in-Some.held) c.in-Some.is c.next.ensures.steps in
    zip_places c.args.stages.items c.args.boxes.items (length c.each.yielded) (c.in-Some.stage, c.in-Some.held) (c.in-Some.stage, c.in-Some.held) turn.0 turn.1

pub finish-requires : goal.finish-requires
finish-requires g c =
    let parts = c.requires.parts in
    let here = at_hand g (goal.at.finish-requires g c).In-Some in
    (parts.0, length c.each.yielded, parts.1.part _ c.in-Some.stage here.0, parts.2.box _ c.in-Some.held here.1)

pub each-preserved : goal.each-preserved
each-preserved g c =
    let here = at_hand g (goal.at.each-preserved g c).In-Some in
    let before = c.each.invariant in
    let out = c.in_ok-finish.field-0 in
    let pushed = c.in_ok-push.ensures.items in
    record {
      len = omega (arith, ap length pushed, length_push c.each.outs.items out, length_push c.each.yielded (c.in-Some.stage, c.in-Some.held), before.len);
      outs = λ w parts boxes.
          let gives = c.in_ok-finish.ensures w (length c.each.yielded) (parts.part _ c.in-Some.stage here.0) (boxes.box _ c.in-Some.held here.1) in
          let Gives : ℕ → Type 0 = λ k. g.S.Stage.gives w k out in
          let Results : List g.row.S-Out.Denot → Type 0 = λ os. AreResults g.S.Stage.gives w os in
          subst Results (sym pushed) (AreResults-more g.S.Stage.gives w c.each.outs.items out (before.outs w parts boxes) (subst Gives (sym before.len) gives));
    }
