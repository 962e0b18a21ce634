use Rattle.std.proofs.Common.{◌∙◌, sym, ap, subst, arith, length, map}
use Rattle.std.specs.Prelude.{List}
use Rattle.std.specs.List.{All}
use Rattle.samr_box.specs.declared.vector.IVec.{IVec}
use Rattle.samr_level.specs.Refs.{Owned}
use Rattle.samr_level.specs.Levels.{own}
use Rattle.samr_trials_levels.specs.First.{HasRooms}
use Rattle.samr_trials_levels.specs.Cover.{CanCompare}
use Rattle.samr_trials_levels.proofs.Ranks.{count_ranks}
use Rattle.samr_trials_values.specs.Renewals.{renewing_of}
use Rattle.samr_trials_values.proofs.RenewLaws.{have_from}
use Rattle.samr_trials_values.proofs.renewals.renewed_over.Goals as goal

pub pairs_of-requires-clause-frames : goal.pairs_of-requires-clause-frames
pairs_of-requires-clause-frames g c =
    subst (λ (r : IVec). CanCompare c.args.frame.now c.args.step r) (sym c.same_ratio-one.ensures) c.requires.can.below

pub all_patches-requires-clause-rooms : goal.all_patches-requires-clause-rooms
all_patches-requires-clause-rooms g c =
    subst (λ (l : List IVec). All (HasRooms c.args.olds.now) l) (sym (c.as_slice-ghosts.ensures.value ∙ c.in_ok-widths.ensures)) c.requires.can.old_rooms

pub all_patches-requires-2-clause-rooms : goal.all_patches-requires-2-clause-rooms
all_patches-requires-2-clause-rooms g c =
    subst (λ (l : List IVec). All (HasRooms c.args.coarser.now) l) (sym (c.as_slice-ghosts.ensures.value ∙ c.in_ok-widths.ensures)) c.requires.can.coarse_rooms

pub values_all-requires-clause-few : goal.values_all-requires-clause-few
values_all-requires-clause-few g c =
    let count = count_ranks (λ rank. map (λ (b : Owned). b.bx) (own rank c.args.news.now)) c.args.ranks c.as_slice.result.now (c.as_slice.ensures.value ∙ c.in_ok-boxes.ensures) in
    omega (arith, count, c.ranges.ranks.fits)

pub values_all-requires-clause-fields : goal.values_all-requires-clause-fields
values_all-requires-clause-fields g c =
    let same = ap length c.requires.rules in
    let few = c.requires.can.few in
    omega (arith, same, few)

pub values_all-requires-clause-parts : goal.values_all-requires-clause-parts
values_all-requires-clause-parts g c = (
  renewing_of c.args.frame.now c.args.step c.args.ranks c.args.width c.args.bound c.args.rules.now c.args.news.now c.args.olds.now c.args.coarser.now,
  have_from c.args.frame.now c.args.step c.args.ranks c.args.width c.args.bound c.args.rules.now c.args.strategies.now c.args.news.now c.args.olds.now c.args.coarser.now
      c.requires.can c.requires.rules c.in_ok-boxes.boxes.items c.as_slice.result.now c.in_ok-same.same.items c.as_slice-2.result.now c.in_ok-below.below.items c.as_slice-3.result.now
      c.in_ok-patches.patches.items c.as_slice-4.result.now c.in_ok-under.under.items c.as_slice-5.result.now c.in_ok-widths.widths.items c.as_slice-ghosts.result.now c.same_ratio-one.result
      c.as_slice.ensures.value c.as_slice-2.ensures.value c.as_slice-3.ensures.value c.as_slice-4.ensures.value c.as_slice-5.ensures.value c.as_slice-ghosts.ensures.value
      c.in_ok-widths.ensures c.same_ratio-one.ensures c.in_ok-boxes.ensures c.in_ok-same.ensures c.in_ok-below.ensures c.in_ok-patches.ensures c.in_ok-under.ensures,
)

pub returns-clause-count : goal.returns-clause-count
returns-clause-count g c =
    (c.in_ok-outs.ensures (renewing_of c.args.frame.now c.args.step c.args.ranks c.args.width c.args.bound c.args.rules.now c.args.news.now c.args.olds.now c.args.coarser.now)
    (have_from c.args.frame.now c.args.step c.args.ranks c.args.width c.args.bound c.args.rules.now c.args.strategies.now c.args.news.now c.args.olds.now c.args.coarser.now
    c.requires.can c.requires.rules c.in_ok-boxes.boxes.items c.as_slice.result.now c.in_ok-same.same.items c.as_slice-2.result.now c.in_ok-below.below.items c.as_slice-3.result.now
    c.in_ok-patches.patches.items c.as_slice-4.result.now c.in_ok-under.under.items c.as_slice-5.result.now c.in_ok-widths.widths.items c.as_slice-ghosts.result.now c.same_ratio-one.result
    c.as_slice.ensures.value c.as_slice-2.ensures.value c.as_slice-3.ensures.value c.as_slice-4.ensures.value c.as_slice-5.ensures.value c.as_slice-ghosts.ensures.value
    c.in_ok-widths.ensures c.same_ratio-one.ensures c.in_ok-boxes.ensures c.in_ok-same.ensures c.in_ok-below.ensures c.in_ok-patches.ensures c.in_ok-under.ensures)).0

pub returns-clause-values : goal.returns-clause-values
returns-clause-values g c =
    (c.in_ok-outs.ensures (renewing_of c.args.frame.now c.args.step c.args.ranks c.args.width c.args.bound c.args.rules.now c.args.news.now c.args.olds.now c.args.coarser.now)
    (have_from c.args.frame.now c.args.step c.args.ranks c.args.width c.args.bound c.args.rules.now c.args.strategies.now c.args.news.now c.args.olds.now c.args.coarser.now
    c.requires.can c.requires.rules c.in_ok-boxes.boxes.items c.as_slice.result.now c.in_ok-same.same.items c.as_slice-2.result.now c.in_ok-below.below.items c.as_slice-3.result.now
    c.in_ok-patches.patches.items c.as_slice-4.result.now c.in_ok-under.under.items c.as_slice-5.result.now c.in_ok-widths.widths.items c.as_slice-ghosts.result.now c.same_ratio-one.result
    c.as_slice.ensures.value c.as_slice-2.ensures.value c.as_slice-3.ensures.value c.as_slice-4.ensures.value c.as_slice-5.ensures.value c.as_slice-ghosts.ensures.value
    c.in_ok-widths.ensures c.same_ratio-one.ensures c.in_ok-boxes.ensures c.in_ok-same.ensures c.in_ok-below.ensures c.in_ok-patches.ensures c.in_ok-under.ensures)).1
