use Rattle.std.proofs.Common.{◌≡◌, ◌∙◌, ap, sym, subst}
use Rattle.samr_stage.specs.Exchange.{AreResults}
use Rattle.samr_box.specs.Space.{Space}
use Rattle.samr_level.specs.Regions.{Area, boxes_of}
use Rattle.samr_level.specs.Blocks.{IsBlocking, level0}
use Rattle.samr_values.specs.Coarsen.{Coarsening, coarsened_patches}
use Rattle.samr_trials_levels.specs.Kept.{kept}
use Rattle.samr_trials_levels.specs.Cover.{fine_blocks}
use Rattle.samr_trials_values.specs.Coarsenings.{CanCoarsenOver}
use Rattle.samr_trials_values.proofs.CoarsenLaws.{can_coarsen_from, same_coarsening}
use Rattle.samr_trials_values.proofs.coarsenings.coarsened_blocks.Goals as goal

pub whole_level0-requires : goal.whole_level0-requires
whole_level0-requires c = c.requires.can.cover.blocks

pub whole_level0-requires-2 : goal.whole_level0-requires-2
whole_level0-requires-2 c = subst (λ (a : Area). IsBlocking c.args.fine_block (boxes_of a)) (sym c.requires.fine) c.requires.can.cover.over_blocks

pub coarsened_under-requires : goal.coarsened_under-requires
coarsened_under-requires c =
    let all = c.as_slice.ensures.value ∙ c.in_ok-all.ensures.value ∙ ap (λ (a : Area). level0 a c.args.fine_block c.args.ranks) c.requires.fine in
    subst
    (λ (d : Space).
    CanCoarsenOver d c.args.step c.args.ranks c.args.width c.args.bound c.args.rules.now c.args.moduli.now c.args.widths.now c.as_slice-2.result.now c.as_slice-3.result.now)
    (sym c.frame.ensures)
    (can_coarsen_from c.args.region.now c.args.block c.args.step c.args.fine_block c.args.over c.args.ranks c.args.width c.args.bound c.args.rules.now c.args.moduli.now c.args.widths.now
    c.requires.can c.as_slice-2.result.now c.as_slice-3.result.now
    (c.as_slice-2.ensures.value ∙ c.in_ok-boxes.ensures ∙ ap (kept c.args.over) all) (c.as_slice-3.ensures.value ∙ c.in_ok-coarser.ensures.value))

pub returns-clause-values : goal.returns-clause-values
returns-clause-values c =
    let all = c.as_slice.ensures.value ∙ c.in_ok-all.ensures.value ∙ ap (λ (a : Area). level0 a c.args.fine_block c.args.ranks) c.requires.fine in
    let blocks = fine_blocks c.args.region.now c.args.step c.args.fine_block c.args.ranks in
    subst (λ (w : Coarsening). AreResults (λ w rank out. out ≡ coarsened_patches w rank) w c.in_ok-outs.outs.items)
    (same_coarsening c.frame.result.now c.args.region.now.frame c.args.step c.args.ranks c.args.width c.args.bound c.args.rules.now c.args.moduli.now c.args.widths.now
    c.as_slice-2.result.now (kept c.args.over blocks) c.as_slice-3.result.now (level0 c.args.region.now c.args.block c.args.ranks)
    c.frame.ensures
    (c.as_slice-2.ensures.value ∙ c.in_ok-boxes.ensures ∙ ap (kept c.args.over) all)
    (c.as_slice-3.ensures.value ∙ c.in_ok-coarser.ensures.value))
    c.in_ok-outs.ensures.values
