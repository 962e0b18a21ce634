use Rattle.std.proofs.Common.{◌≡◌, ◌∙◌, ap, sym, subst}
use Rattle.samr_stage.specs.Exchange.{AreResults}
use Rattle.samr_box.specs.Space.{Space}
use Rattle.samr_level.specs.Regions.{Area, boxes_of}
use Rattle.samr_level.specs.Blocks.{IsBlocking, level0}
use Rattle.samr_values.specs.Values.{Renewing, renewed}
use Rattle.samr_trials_levels.specs.Kept.{kept}
use Rattle.samr_trials_levels.specs.Cover.{fine_blocks}
use Rattle.samr_trials_values.specs.Renewals.{CanRenewOver}
use Rattle.samr_trials_values.proofs.RenewLaws.{can_from, same_renewing}
use Rattle.samr_trials_values.proofs.renewals.renewed_blocks.Goals as goal

pub whole_level0-requires : goal.whole_level0-requires
whole_level0-requires g c = c.requires.can.cover.blocks

pub whole_level0-requires-2 : goal.whole_level0-requires-2
whole_level0-requires-2 g c = subst (λ (a : Area). IsBlocking c.args.fine_block (boxes_of a)) (sym c.requires.fine) c.requires.can.cover.over_blocks

pub renewed_over-requires-clause-can : goal.renewed_over-requires-clause-can
renewed_over-requires-clause-can g c =
    let over = c.as_slice-blocks.ensures.value ∙ c.in_ok-over.ensures.value ∙ ap (λ (a : Area). level0 a c.args.fine_block c.args.ranks) c.requires.fine in
    subst
    (λ (d : Space).
    CanRenewOver d c.args.step c.args.ranks c.args.width c.args.bound c.args.rules.now c.as_slice.result.now c.as_slice-2.result.now c.as_slice-3.result.now)
    (sym c.frame.ensures)
    (can_from c.args.region.now c.args.block c.args.step c.args.fine_block c.args.news c.args.olds c.args.ranks c.args.width c.args.bound c.args.rules.now c.requires.can
    c.as_slice-blocks.result.now c.as_slice.result.now c.as_slice-2.result.now c.as_slice-3.result.now over
    (c.as_slice.ensures.value ∙ c.in_ok-new_boxes.ensures) (c.as_slice-2.ensures.value ∙ c.in_ok-old_boxes.ensures) (c.as_slice-3.ensures.value ∙ c.in_ok-coarser.ensures.value))

pub returns-clause-values : goal.returns-clause-values
returns-clause-values g c =
    let over = c.as_slice-blocks.ensures.value ∙ c.in_ok-over.ensures.value ∙ ap (λ (a : Area). level0 a c.args.fine_block c.args.ranks) c.requires.fine in
    let blocks = fine_blocks c.args.region.now c.args.step c.args.fine_block c.args.ranks in
    subst (λ (w : Renewing). AreResults (λ w rank out. out ≡ renewed w rank) w c.in_ok-outs.outs.items)
    (same_renewing c.frame.result.now c.args.region.now.frame c.args.step c.args.ranks c.args.width c.args.bound c.args.rules.now
    c.as_slice.result.now (kept c.args.news blocks) c.as_slice-2.result.now (kept c.args.olds blocks) c.as_slice-3.result.now (level0 c.args.region.now c.args.block c.args.ranks)
    c.frame.ensures
    (c.as_slice.ensures.value ∙ c.in_ok-new_boxes.ensures ∙ ap (kept c.args.news) over)
    (c.as_slice-2.ensures.value ∙ c.in_ok-old_boxes.ensures ∙ ap (kept c.args.olds) over)
    (c.as_slice-3.ensures.value ∙ c.in_ok-coarser.ensures.value))
    c.in_ok-outs.ensures.values
