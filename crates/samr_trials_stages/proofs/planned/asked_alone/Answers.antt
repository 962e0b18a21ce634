use Rattle.std.proofs.Common.{◌<◌, ◌∙◌, ap, subst, sym, arith, refl, inr, length, map}
use Rattle.std.proofs.lemmas.List.FromFn.{length-map-range_with_len}
use Rattle.std.specs.Prelude.{pos, List, []}
use Rattle.std.specs.List.{All, range_with_len}
use Rattle.std.specs.List.Sorted.{IsStrictlySortedBy}
use Rattle.samr_box.specs.declared.vector.IVec.{IVec}
use Rattle.samr_box.specs.Vector.{alike, AtMost, IsRatio}
use Rattle.samr_box.specs.Corners.{IsBox, grown}
use Rattle.samr_box.specs.Space.{Space, IsSpace, finer}
use Rattle.samr_box.proofs.Ascending.{sorted-nil}
use Rattle.samr_level.specs.Refs.{Owned}
use Rattle.samr_level.specs.RefOrders.{ref_cmp}
use Rattle.samr_level.specs.Pairs.{part, pair}
use Rattle.samr_level.proofs.RefLaws.{ref_total}
use Rattle.samr_level.proofs.Sorting.{sorted-in_order}
use Rattle.samr_nest.proofs.EdgeImages.{times_one}
use Rattle.samr_sched.specs.Ask.{Scheduling}
use Rattle.samr_sched.proofs.PlanLaws.{greatest_self}
use Rattle.samr_trials_stages.proofs.FitPlans.{one_ratio, fit_plan}
use Rattle.samr_trials_stages.proofs.planned.asked_alone.Goals as goal

pub ask_all-requires-clause-ranks : goal.ask_all-requires-clause-ranks
ask_all-requires-clause-ranks c =
    let count = ap length (c.as_slice-4.ensures.value ∙ c.in_ok-parts.ensures) ∙ length-map-range_with_len (λ rank. part c.as_slice-3.result.now rank) 0 c.args.ranks in
    omega (arith, count, c.ranges.ranks.fits)

pub ask_all-requires-clause-parts : goal.ask_all-requires-clause-parts
ask_all-requires-clause-parts c =
    let region = c.args.region.now in
    let ratio = c.in-Some.ratio in
    let level = c.in_level_order-boxes.result.items in
    let P : Owned → Type 0 = λ b. (b.owner < c.args.ranks) × IsBox b.bx in
    let Q : List Owned → IVec → Type 0 = λ l g. AtMost g c.args.width × All (λ b. IsBox (grown b.bx g)) l in
    let w : Scheduling = record {
      ranks = c.args.ranks;
      region = region;
      ratio = ratio;
      level = level;
      width = c.args.width;
      below = ratio;
      step = alike (pos 1);
      coarser = [];
      reach = c.args.width;
      ghosts = c.args.ghosts.now;
      fixed = c.args.fixed.now;
    } in
    let space : IsSpace (finer region.frame ratio) =
    subst (λ (d : Space). IsSpace (finer d ratio)) c.frame.ensures
    (subst (λ (r : IVec). IsSpace (finer c.frame.result.now r)) (greatest_self ratio) (c.are_comparable.ensures c.if-not-are_comparable.false).forth) in
    let is_ratio : IsRatio ratio = subst IsRatio (sym c.in-Some.ensures.value) one_ratio in (
      w,
      record {
        is = fit_plan w c.in_ok-_cells.ensures.area is_ratio one_ratio (times_one ratio) space space
            (subst (λ (l : List Owned). IsStrictlySortedBy ref_cmp l) (sym c.in_level_order-boxes.ensures) (sorted-in_order ref_total c.args.boxes.items))
            (sorted-nil ref_cmp)
            (subst (All P) c.as_slice.ensures.value (c.all_fit.ensures c.if-not-all_fit.false))
            (λ k d less. absurd (omega (arith, less)))
            (subst (λ (l : List Owned). All (Q l) c.args.ghosts.now) c.as_slice-2.ensures.value (c.ghosts_fit.ensures c.if-not-ghosts_fit.false));
        same_region = refl;
        same_parts =
            c.as_slice-4.ensures.value ∙ c.in_ok-parts.ensures
            ∙ ap (λ (l : List Owned). map (λ rank. part l rank) (range_with_len 0 c.args.ranks)) c.as_slice-3.ensures.value;
        same_selves =
            c.as_slice-5.ensures.value ∙ c.in_ok-selves.ensures
            ∙ ap (λ (d : Space). map (λ rank. pair d c.args.width ratio ratio level level rank) (range_with_len 0 c.args.ranks)) c.frame-2.ensures;
        same_below = inr (c.as_slice-6.ensures.value ∙ c.new-none.ensures.items, refl, refl, refl);
        same_ghosts = refl;
        same_fixed = refl;
      },
    )
