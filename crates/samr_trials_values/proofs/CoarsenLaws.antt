-- What the ranks have before a level is coarsened, and that the levels of blocks are fit for it.
use Rattle.std.proofs.Common.{◌≡◌, ℕ, ◌<◌, refl, sym, ap, ◌∙◌, subst, map}
use Rattle.std.specs.Prelude.{pos, ◌^◌, List}
use Rattle.std.specs.List.{range_with_len}
use Rattle.samr_box.specs.declared.vector.IVec.{IVec}
use Rattle.samr_box.specs.Vector.{alike}
use Rattle.samr_box.specs.Corners.{cells_of}
use Rattle.samr_box.specs.Space.{Space}
use Rattle.samr_box.proofs.Members.{member_of_All}
use Rattle.samr_level.specs.declared.parts.Pair.{Pair}
use Rattle.samr_level.specs.Refs.{Owned}
use Rattle.samr_level.specs.Levels.{own}
use Rattle.samr_level.specs.Pairs.{pair}
use Rattle.samr_level.specs.Regions.{Area, finer_area}
use Rattle.samr_level.specs.Blocks.{level0}
use Rattle.samr_data.specs.Grids.{Grid}
use Rattle.samr_ops.specs.declared.rules.CoarsenRule.{CoarsenRule}
use Rattle.samr_values.specs.Coarsen.{IsCoarsening, IsRefinement}
use Rattle.samr_values.specs.CoarsenOnAll.{HaveAllFine}
use Rattle.samr_trials_levels.specs.Kept.{kept}
use Rattle.samr_trials_levels.specs.First.{first_fields, all_first}
use Rattle.samr_trials_levels.specs.Cover.{fine_start, coarse_start, fine_blocks}
use Rattle.samr_trials_levels.proofs.Ranks.{at_rank, count_ranks}
use Rattle.samr_trials_levels.proofs.KeptLaws.{Member-from_kept}
use Rattle.samr_trials_levels.proofs.FirstPatches.{count_first, first_members, all_own_rooms, all_kept_rooms}
use Rattle.samr_trials_levels.proofs.Covering.{one_ratio, one_times, is_coarse, is_fine}
use Rattle.samr_trials_values.specs.Coarsenings.{coarsening_of, coarsening, CanCoarsen, CanCoarsenOver}
use Rattle.samr_trials_values.proofs.FirstValues.{has_first}

module _ (frame : Space) (step : IVec) (ranks : ℕ) (width : IVec) (bound : ℕ) (rules : List CoarsenRule) (moduli : List ℕ) (widths : List IVec) (fine coarser : List Owned)
    (h : CanCoarsenOver frame step ranks width bound rules moduli widths fine coarser) where
  pub have_fine : (pairs : List Pair) (over under : List (List (List Grid)))
      → pairs ≡ map (λ rank. pair frame width step (alike (pos 1)) fine coarser rank) (range_with_len 0 ranks)
      → over ≡ all_first bound fine_start widths fine ranks → under ≡ all_first bound coarse_start widths coarser ranks
      → HaveAllFine pairs over under rules moduli (coarsening_of frame step ranks width bound rules moduli widths fine coarser)
  have_fine pairs over under e o u = record {
    pairs = count_ranks (λ rank. pair frame width step (alike (pos 1)) fine coarser rank) ranks pairs e;
    fine_ranks = count_ranks (λ rank. first_fields bound fine_start widths (own rank fine)) ranks over o;
    coarse_ranks = count_ranks (λ rank. first_fields bound coarse_start widths (own rank coarser)) ranks under u;
    each = λ r p f c at_pair at_over at_under.
        let its_pair = at_rank (λ rank. pair frame width step (alike (pos 1)) fine coarser rank) ranks pairs r p e at_pair in
        let its_fine = at_rank (λ rank. first_fields bound fine_start widths (own rank fine)) ranks over r f o at_over in
        let its_coarse = at_rank (λ rank. first_fields bound coarse_start widths (own rank coarser)) ranks under r c u at_under in
        record {
          is = h.is;
          same_rank = refl;
          same_ranks = refl;
          within = its_pair.0;
          same_pair = its_pair.1 ∙ ap (λ (v : IVec). pair frame width v (alike (pos 1)) fine coarser r) (sym (one_times step));
          same_rules = refl;
          same_moduli = refl;
          fine_values = has_first bound fine_start widths (own r fine) f its_fine.1 (all_own_rooms fine r widths h.fine_rooms);
          fine_fields = count_first bound fine_start widths (own r fine) f its_fine.1 ∙ sym h.merges.same_rules;
          same_coarse = its_coarse.1;
          coarse_boxes = λ field m. first_members bound coarse_start widths (own r coarser) c its_coarse.1 field m;
          coarse_fields = count_first bound coarse_start widths (own r coarser) c its_coarse.1 ∙ sym h.merges.same_rules;
        };
  }

module _ (area : Area) (block step fine_block : IVec) (over ranks : ℕ) (width : IVec) (bound : ℕ) (rules : List CoarsenRule) (moduli : List ℕ) (widths : List IVec)
    (h : CanCoarsen area block step fine_block ranks width bound rules moduli widths) where
  is_coarsening : IsCoarsening (coarsening area block step fine_block over ranks width bound rules moduli widths)
  is_coarsening = record {
    area = finer_area area step;
    coarse_area = area;
    fine = is_fine area block step fine_block ranks width h.cover over;
    coarser = is_coarse area block step fine_block ranks width h.cover;
    ratio = one_ratio;
    step = h.cover.ratio;
    width = h.cover.positive;
    refinements = λ b m.
        member_of_All (λ (b : Owned). IsRefinement step b.bx) b (fine_blocks area step fine_block ranks) h.refinements (Member-from_kept over (fine_blocks area step fine_block ranks) b m);
    room = λ b m. member_of_All (λ (b : Owned). cells_of b.bx < 2 ^ 62) b (level0 area block ranks) h.small m;
    same_length = h.merges.same_rules ∙ sym h.merges.same_moduli;
    some = h.merges.some;
  }

  can_over : CanCoarsenOver area.frame step ranks width bound rules moduli widths (kept over (fine_blocks area step fine_block ranks)) (level0 area block ranks)
  can_over = record {
    is = is_coarsening;
    in_range = h.cover.in_range;
    compare = h.cover.below;
    few = h.hold.few;
    merges = h.merges;
    some = h.some;
    fine_rooms = all_kept_rooms (fine_blocks area step fine_block ranks) over widths h.hold.over_rooms;
    coarse_rooms = h.hold.rooms;
  }

  -- the same, of lists that are equal to these
  pub can_coarsen_from : (fine coarser : List Owned) → fine ≡ kept over (fine_blocks area step fine_block ranks) → coarser ≡ level0 area block ranks
      → CanCoarsenOver area.frame step ranks width bound rules moduli widths fine coarser
  can_coarsen_from fine coarser f c =
      subst (λ (l : List Owned). CanCoarsenOver area.frame step ranks width bound rules moduli widths l coarser) (sym f)
      (subst (λ (l : List Owned). CanCoarsenOver area.frame step ranks width bound rules moduli widths (kept over (fine_blocks area step fine_block ranks)) l) (sym c) can_over)

-- of equal levels
pub same_coarsening : (frame frame' : Space) (step : IVec) (ranks : ℕ) (width : IVec) (bound : ℕ) (rules : List CoarsenRule) (moduli : List ℕ) (widths : List IVec)
    (fine fine' coarser coarser' : List Owned) → frame ≡ frame' → fine ≡ fine' → coarser ≡ coarser'
    → coarsening_of frame step ranks width bound rules moduli widths fine coarser ≡ coarsening_of frame' step ranks width bound rules moduli widths fine' coarser'
same_coarsening frame frame' step ranks width bound rules moduli widths fine fine' coarser coarser' d f c =
    ap (λ (s : Space). coarsening_of s step ranks width bound rules moduli widths fine coarser) d
    ∙ ap (λ (l : List Owned). coarsening_of frame' step ranks width bound rules moduli widths l coarser) f
    ∙ ap (λ (l : List Owned). coarsening_of frame' step ranks width bound rules moduli widths fine' l) c

pub same_coarse_blocks : (a a' : Area) (block step fine_block : IVec) (over ranks : ℕ) (width : IVec) (bound : ℕ) (rules : List CoarsenRule) (moduli : List ℕ) (widths : List IVec) → a ≡ a'
    → coarsening a block step fine_block over ranks width bound rules moduli widths ≡ coarsening a' block step fine_block over ranks width bound rules moduli widths
same_coarse_blocks a a' block step fine_block over ranks width bound rules moduli widths e =
    ap (λ (v : Area). coarsening v block step fine_block over ranks width bound rules moduli widths) e
