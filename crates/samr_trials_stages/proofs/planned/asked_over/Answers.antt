use Rattle.std.proofs.Common.{◌∙◌, ap, subst, sym, arith, refl, inl, length, map}
use Rattle.std.proofs.lemmas.List.FromFn.{length-map-range_with_len}
use Rattle.std.specs.Prelude.{List}
use Rattle.std.specs.List.{range_with_len}
use Rattle.std.specs.List.Sorted.{IsStrictlySortedBy}
use Rattle.samr_box.specs.declared.vector.IVec.{IVec}
use Rattle.samr_box.specs.Vector.{IsRatio}
use Rattle.samr_box.specs.Space.{Space, IsSpace, finer}
use Rattle.samr_level.specs.Refs.{Owned}
use Rattle.samr_level.specs.RefOrders.{ref_cmp}
use Rattle.samr_level.specs.Pairs.{part, pair}
use Rattle.samr_level.proofs.RefLaws.{ref_total}
use Rattle.samr_level.proofs.Sorting.{sorted-in_order}
use Rattle.samr_sched.specs.Ask.{Scheduling}
use Rattle.samr_trials_stages.proofs.FitPlans.{fit_plan}
use Rattle.samr_trials_stages.proofs.planned.asked_over.Goals as goal

pub ask_all-requires-clause-ranks : goal.ask_all-requires-clause-ranks
ask_all-requires-clause-ranks c =
    let count = ap length (c.as_slice-2.ensures.value ∙ c.in_ok-parts.ensures) ∙ length-map-range_with_len (λ rank. part c.as_slice.result.now rank) 0 c.args.ranks in
    omega (arith, count, c.ranges.ranks.fits)

pub ask_all-requires-clause-parts : goal.ask_all-requires-clause-parts
ask_all-requires-clause-parts c =
    let region = c.args.region.now in
    let ratio = c.in-Some.ratio in
    let level = c.in_level_order.result.items in
    let under = c.in_level_order-2.result.items in
    let fit = c.if-not-is_fit.false in
    let w : Scheduling = record {
      ranks = c.args.ranks;
      region = region;
      ratio = ratio;
      level = level;
      width = c.args.width;
      below = c.args.below;
      step = c.args.step;
      coarser = under;
      reach = c.args.reach;
      ghosts = c.args.ghosts.now;
      fixed = c.as_slice-5.result.now;
    } in
    let spaced : (r : IVec) → IsSpace (finer c.frame.result.now r) → IsSpace (finer region.frame r) = λ r s. subst (λ (d : Space). IsSpace (finer d r)) c.frame.ensures s in
    let is_ratio : IsRatio ratio = subst IsRatio c.factors-factors.ensures.value c.factors-factors.ensures.ratio in
    let Sorted : List Owned → Type 0 = λ l. IsStrictlySortedBy ref_cmp l in (
      w,
      record {
        is = fit_plan w c.in_ok-_cells.ensures.area is_ratio c.product.ensures.second (sym c.in-Some.ensures.value)
            (spaced ratio (c.is_fit.ensures.frame fit)) (spaced c.args.below (c.is_fit.ensures.below fit))
            (subst Sorted (sym c.in_level_order.ensures) (sorted-in_order ref_total c.args.boxes.items))
            (subst Sorted (sym c.in_level_order-2.ensures) (sorted-in_order ref_total c.args.coarser.items))
            (c.is_fit.ensures.owners fit) (c.is_fit.ensures.owners_below fit) (c.is_fit.ensures.ghosts fit);
        same_region = refl;
        same_parts =
            c.as_slice-2.ensures.value ∙ c.in_ok-parts.ensures
            ∙ ap (λ (l : List Owned). map (λ rank. part l rank) (range_with_len 0 c.args.ranks)) c.as_slice.ensures.value;
        same_selves =
            c.as_slice-3.ensures.value ∙ c.in_ok-selves.ensures
            ∙ ap (λ (d : Space). map (λ rank. pair d c.args.width ratio ratio level level rank) (range_with_len 0 c.args.ranks)) c.frame-2.ensures;
        same_below =
            inl (c.as_slice-4.ensures.value ∙ c.in_ok-downs.ensures
            ∙ ap (λ (d : Space). map (λ rank. pair d c.args.reach ratio c.args.below level under rank) (range_with_len 0 c.args.ranks)) c.frame-3.ensures);
        same_ghosts = refl;
        same_fixed = refl;
      },
    )
