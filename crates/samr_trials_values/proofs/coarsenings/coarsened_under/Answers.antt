use Rattle.std.proofs.Common.{◌∙◌, sym, ap, subst, arith, map}
use Rattle.std.specs.List.{range_with_len}
use Rattle.samr_box.specs.declared.vector.IVec.{IVec}
use Rattle.samr_level.specs.Levels.{own}
use Rattle.samr_level.specs.Pairs.{pair}
use Rattle.samr_trials_levels.specs.First.{first_fields}
use Rattle.samr_trials_levels.specs.Cover.{coarse_start, CanCompare}
use Rattle.samr_trials_levels.proofs.Ranks.{count_ranks}
use Rattle.samr_trials_values.specs.Coarsenings.{coarsening_of}
use Rattle.samr_trials_values.proofs.CoarsenLaws.{have_fine}
use Rattle.samr_trials_values.proofs.coarsenings.coarsened_under.Goals as goal

pub pairs_of-requires-clause-frames : goal.pairs_of-requires-clause-frames
pairs_of-requires-clause-frames c = subst (λ (r : IVec). CanCompare c.args.frame.now c.args.step r) (sym c.same_ratio-one.ensures) c.requires.compare

pub coarsen_all-requires-clause-few : goal.coarsen_all-requires-clause-few
coarsen_all-requires-clause-few c =
    let count = count_ranks (λ rank. first_fields c.args.bound coarse_start c.args.widths.now (own rank c.args.coarser.now)) c.args.ranks c.in_ok-under.under.items c.in_ok-under.ensures in
    omega (arith, count, c.ranges.ranks.fits)

pub coarsen_all-requires-clause-fields : goal.coarsen_all-requires-clause-fields
coarsen_all-requires-clause-fields c =
    let same = c.requires.merges.same_rules in
    let few = c.requires.few in
    omega (arith, same, few)

pub coarsen_all-requires-clause-parts : goal.coarsen_all-requires-clause-parts
coarsen_all-requires-clause-parts c = (
  coarsening_of c.args.frame.now c.args.step c.args.ranks c.args.width c.args.bound c.args.rules.now c.args.moduli.now c.args.widths.now c.args.fine.now c.args.coarser.now,
  have_fine c.args.frame.now c.args.step c.args.ranks c.args.width c.args.bound c.args.rules.now c.args.moduli.now c.args.widths.now c.args.fine.now c.args.coarser.now c.requires
      c.as_slice.result.now c.as_slice-2.result.now c.in_ok-under.under.items
      (c.as_slice.ensures.value
      ∙ c.in_ok-pairs.ensures
      ∙ ap (λ (r : IVec). map (λ rank. pair c.args.frame.now c.args.width c.args.step r c.args.fine.now c.args.coarser.now rank) (range_with_len 0 c.args.ranks)) c.same_ratio-one.ensures)
      (c.as_slice-2.ensures.value ∙ c.in_ok-over.ensures) c.in_ok-under.ensures,
)

pub returns-clause-count : goal.returns-clause-count
returns-clause-count c =
    (c.in_ok-outs.ensures (coarsening_of c.args.frame.now c.args.step c.args.ranks c.args.width c.args.bound c.args.rules.now c.args.moduli.now c.args.widths.now c.args.fine.now c.args.coarser.now)
    (have_fine c.args.frame.now c.args.step c.args.ranks c.args.width c.args.bound c.args.rules.now c.args.moduli.now c.args.widths.now c.args.fine.now c.args.coarser.now c.requires
    c.as_slice.result.now c.as_slice-2.result.now c.in_ok-under.under.items
    (c.as_slice.ensures.value
    ∙ c.in_ok-pairs.ensures
    ∙ ap (λ (r : IVec). map (λ rank. pair c.args.frame.now c.args.width c.args.step r c.args.fine.now c.args.coarser.now rank) (range_with_len 0 c.args.ranks)) c.same_ratio-one.ensures)
    (c.as_slice-2.ensures.value ∙ c.in_ok-over.ensures) c.in_ok-under.ensures)).0

pub returns-clause-values : goal.returns-clause-values
returns-clause-values c =
    (c.in_ok-outs.ensures (coarsening_of c.args.frame.now c.args.step c.args.ranks c.args.width c.args.bound c.args.rules.now c.args.moduli.now c.args.widths.now c.args.fine.now c.args.coarser.now)
    (have_fine c.args.frame.now c.args.step c.args.ranks c.args.width c.args.bound c.args.rules.now c.args.moduli.now c.args.widths.now c.args.fine.now c.args.coarser.now c.requires
    c.as_slice.result.now c.as_slice-2.result.now c.in_ok-under.under.items
    (c.as_slice.ensures.value
    ∙ c.in_ok-pairs.ensures
    ∙ ap (λ (r : IVec). map (λ rank. pair c.args.frame.now c.args.width c.args.step r c.args.fine.now c.args.coarser.now rank) (range_with_len 0 c.args.ranks)) c.same_ratio-one.ensures)
    (c.as_slice-2.ensures.value ∙ c.in_ok-over.ensures) c.in_ok-under.ensures)).1
