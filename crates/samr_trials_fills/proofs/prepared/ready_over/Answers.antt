use Rattle.std.proofs.Common.{◌∙◌, refl, ap, subst, sym}
use Rattle.samr_level.specs.Regions.{Area, boxes_of}
use Rattle.samr_level.specs.Blocks.{IsBlocking, level0}
use Rattle.samr_fill.specs.Fill.{Filling}
use Rattle.samr_trials_levels.specs.Kept.{kept}
use Rattle.samr_trials_levels.specs.Cover.{fine_blocks}
use Rattle.samr_trials_fills.specs.Ready.{AreReady}
use Rattle.samr_trials_fills.proofs.FillLaws.{can_from_over, same_filling}
use Rattle.samr_trials_fills.proofs.prepared.ready_over.Goals as goal

pub whole_level0-requires : goal.whole_level0-requires
whole_level0-requires c = c.requires.can.refine.cover.blocks

pub whole_level0-requires-2 : goal.whole_level0-requires-2
whole_level0-requires-2 c = subst (λ (a : Area). IsBlocking c.args.fine_block (boxes_of a)) (sym c.requires.fine) c.requires.can.refine.cover.over_blocks

pub made_ready-requires : goal.made_ready-requires
made_ready-requires c =
    let blocks = c.as_slice.ensures.value ∙ c.in_ok-blocks.ensures.value ∙ ap (λ (a : Area). level0 a c.args.fine_block c.args.ranks) c.requires.fine in
    can_from_over c.args.region.now c.args.block c.args.step c.args.fine_block c.args.over c.args.ranks c.args.width c.args.bound c.args.fixed.now c.args.rules.now
    c.as_slice-2.result.now c.as_slice-3.result.now c.requires.can (c.as_slice-2.ensures.value ∙ c.in_ok-level.ensures ∙ ap (kept c.args.over) blocks)
    (c.as_slice-3.ensures.value ∙ c.in_ok-coarser.ensures.value)

pub returns : goal.returns
returns c =
    let blocks = c.as_slice.ensures.value ∙ c.in_ok-blocks.ensures.value ∙ ap (λ (a : Area). level0 a c.args.fine_block c.args.ranks) c.requires.fine in
    subst (λ (w : Filling). AreReady c.in_ok-ready.ready c.args.rules.now w)
    (same_filling c.args.region.now c.args.step c.args.step c.args.ranks c.args.width c.args.bound c.args.fixed.now c.args.rules.now
    c.as_slice-2.result.now (kept c.args.over (fine_blocks c.args.region.now c.args.step c.args.fine_block c.args.ranks)) c.as_slice-3.result.now (level0 c.args.region.now c.args.block c.args.ranks)
    refl (c.as_slice-2.ensures.value ∙ c.in_ok-level.ensures ∙ ap (kept c.args.over) blocks) (c.as_slice-3.ensures.value ∙ c.in_ok-coarser.ensures.value))
    c.in_ok-ready.ensures
