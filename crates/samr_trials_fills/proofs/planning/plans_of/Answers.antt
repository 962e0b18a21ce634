use Rattle.std.proofs.Common.{◌∙◌, ap, arith, length, subst, sym}
use Rattle.std.proofs.lemmas.List.FromFn.{length-map-range_with_len}
use Rattle.samr_box.specs.declared.vector.IVec.{IVec}
use Rattle.samr_box.specs.Space.{Space}
use Rattle.samr_level.specs.Pairs.{part}
use Rattle.samr_trials_levels.specs.Cover.{CanCompare}
use Rattle.samr_trials_fills.specs.Fills.{schedule_of}
use Rattle.samr_trials_fills.proofs.FillLaws.{levels_from}
use Rattle.samr_trials_fills.proofs.planning.plans_of.Goals as goal

pub pairs_of-requires-clause-frames : goal.pairs_of-requires-clause-frames
pairs_of-requires-clause-frames c = subst (λ (d : Space). CanCompare d c.args.step c.args.step) (sym c.frame-frame.ensures) c.requires.same

pub pairs_if_any-requires-clause-frames : goal.pairs_if_any-requires-clause-frames
pairs_if_any-requires-clause-frames c =
    subst (λ (d : Space). CanCompare d c.args.step c.same_ratio-one.result) (sym c.frame-frame.ensures)
    (subst (λ (r : IVec). CanCompare c.args.region.now.frame c.args.step r) (sym c.same_ratio-one.ensures) c.requires.below)

pub ask_all-requires-clause-ranks : goal.ask_all-requires-clause-ranks
ask_all-requires-clause-ranks c =
    let count = ap length (c.as_slice.ensures.value ∙ c.in_ok-parts.ensures) ∙ length-map-range_with_len (λ rank. part c.args.level.now rank) 0 c.args.ranks in
    omega (arith, count, c.ranges.ranks.fits)

pub ask_all-requires-clause-parts : goal.ask_all-requires-clause-parts
ask_all-requires-clause-parts c = (
  schedule_of c.args.region.now c.args.step c.args.ranks c.args.width c.args.ghosts.now c.args.fixed.now c.args.level.now c.args.coarser.now,
  levels_from c.args.region.now c.frame-frame.result.now c.args.step c.same_ratio-one.result c.args.ranks c.args.width c.args.ghosts.now c.args.fixed.now c.args.level.now c.args.coarser.now
      c.as_slice.result.now c.in_ok-selves.selves.items c.as_slice-2.result.now c.in_ok-downs.downs.items c.as_slice-3.result.now c.requires.can c.requires.alone
      c.frame-frame.ensures c.same_ratio-one.ensures (c.as_slice.ensures.value ∙ c.in_ok-parts.ensures) c.as_slice-2.ensures.value c.in_ok-selves.ensures c.as_slice-3.ensures.value c.in_ok-downs.ensures,
)

pub returns-clause-count : goal.returns-clause-count
returns-clause-count c =
    (c.in_ok-plans.ensures (schedule_of c.args.region.now c.args.step c.args.ranks c.args.width c.args.ghosts.now c.args.fixed.now c.args.level.now c.args.coarser.now)
    (levels_from c.args.region.now c.frame-frame.result.now c.args.step c.same_ratio-one.result c.args.ranks c.args.width c.args.ghosts.now c.args.fixed.now c.args.level.now c.args.coarser.now
    c.as_slice.result.now c.in_ok-selves.selves.items c.as_slice-2.result.now c.in_ok-downs.downs.items c.as_slice-3.result.now c.requires.can c.requires.alone
    c.frame-frame.ensures c.same_ratio-one.ensures (c.as_slice.ensures.value ∙ c.in_ok-parts.ensures) c.as_slice-2.ensures.value c.in_ok-selves.ensures c.as_slice-3.ensures.value c.in_ok-downs.ensures)).0

pub returns-clause-plans : goal.returns-clause-plans
returns-clause-plans c =
    (c.in_ok-plans.ensures (schedule_of c.args.region.now c.args.step c.args.ranks c.args.width c.args.ghosts.now c.args.fixed.now c.args.level.now c.args.coarser.now)
    (levels_from c.args.region.now c.frame-frame.result.now c.args.step c.same_ratio-one.result c.args.ranks c.args.width c.args.ghosts.now c.args.fixed.now c.args.level.now c.args.coarser.now
    c.as_slice.result.now c.in_ok-selves.selves.items c.as_slice-2.result.now c.in_ok-downs.downs.items c.as_slice-3.result.now c.requires.can c.requires.alone
    c.frame-frame.ensures c.same_ratio-one.ensures (c.as_slice.ensures.value ∙ c.in_ok-parts.ensures) c.as_slice-2.ensures.value c.in_ok-selves.ensures c.as_slice-3.ensures.value c.in_ok-downs.ensures)).1
