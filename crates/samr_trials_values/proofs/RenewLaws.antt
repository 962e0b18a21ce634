-- What the ranks have before the values of a new level are told, and that the levels of blocks are fit for it.
use Rattle.std.proofs.Common.{◌≡◌, ℕ, ◌<◌, refl, sym, ap, ◌∙◌, subst, inl, inr, arith, map, slice_get}
use Rattle.std.proofs.lemmas.List.{length-map}
use Rattle.std.specs.Prelude.{pos, ◌⊎◌, List, [], Option}
use Rattle.std.specs.List.{range_with_len}
use Rattle.samr_box.specs.declared.vector.IVec.{IVec}
use Rattle.samr_box.specs.Vector.{alike}
use Rattle.samr_box.specs.Corners.{Corners}
use Rattle.samr_box.specs.Space.{Space}
use Rattle.samr_box.proofs.Members.{member_of_All}
use Rattle.samr_level.specs.declared.parts.Pair.{Pair}
use Rattle.samr_level.specs.Refs.{Owned}
use Rattle.samr_level.specs.Levels.{own}
use Rattle.samr_level.specs.Pairs.{pair}
use Rattle.samr_level.specs.Regions.{Area, finer_area}
use Rattle.samr_level.specs.Blocks.{level0}
use Rattle.samr_data.specs.Grids.{Grid}
use Rattle.samr_ops.specs.declared.rules.Rules.{Rules}
use Rattle.samr_values.specs.Values.{IsRenewing}
use Rattle.samr_values.specs.ValuesParts.{KnowsOld}
use Rattle.samr_values.specs.ValuesOnAll.{HaveAllOld}
use Rattle.samr_trials_levels.specs.Kept.{kept}
use Rattle.samr_trials_levels.specs.First.{first_fields, all_first, HasRoom}
use Rattle.samr_trials_levels.specs.Cover.{fine_start, coarse_start, fine_blocks, CanRefine}
use Rattle.samr_trials_levels.proofs.Ranks.{at_rank, of_rank, count_ranks}
use Rattle.samr_trials_levels.proofs.KeptLaws.{Member-from_kept}
use Rattle.samr_trials_levels.proofs.FirstPatches.{count_first, all_own_rooms, all_kept_rooms}
use Rattle.samr_trials_levels.proofs.Covering.{one_ratio, one_times, is_coarse, is_fine, lies_over, first_fits, its_rooms}
use Rattle.samr_trials_values.specs.Renewals.{renewing_of, renewing, CanRenewOver}
use Rattle.samr_trials_values.proofs.FirstValues.{has_first}

module _ (frame : Space) (step : IVec) (ranks : ℕ) (width : IVec) (bound : ℕ) (rules : List Rules) (news olds coarser : List Owned)
    (h : CanRenewOver frame step ranks width bound rules news olds coarser) where
  its_old : (same : List Pair) (r : ℕ) → r < ranks → (same ≡ map (λ rank. pair frame width step step news olds rank) (range_with_len 0 ranks)) ⊎ ((same ≡ []) × (olds ≡ []))
      → KnowsOld (slice_get same r) (renewing_of frame step ranks width bound rules news olds coarser) r
  its_old same r below (inl is) =
      subst (λ (o : Option Pair). KnowsOld o (renewing_of frame step ranks width bound rules news olds coarser) r)
      (sym (of_rank (λ rank. pair frame width step step news olds rank) ranks same r is below)) refl
  its_old same r below (inr none) =
      subst (λ (l : List Pair). KnowsOld (slice_get l r) (renewing_of frame step ranks width bound rules news olds coarser) r) (sym none.0) none.1

  pub have_old : (boxes : List (List Corners)) (same below : List Pair) (patches under : List (List (List Grid)))
      → boxes ≡ map (λ rank. map (λ b. b.bx) (own rank news)) (range_with_len 0 ranks)
      → (same ≡ map (λ rank. pair frame width step step news olds rank) (range_with_len 0 ranks)) ⊎ ((same ≡ []) × (olds ≡ []))
      → below ≡ map (λ rank. pair frame width step (alike (pos 1)) news coarser rank) (range_with_len 0 ranks)
      → patches ≡ all_first bound fine_start (map (λ r. r.width) rules) olds ranks → under ≡ all_first bound coarse_start (map (λ r. r.width) rules) coarser ranks
      → HaveAllOld boxes same below step patches under rules (renewing_of frame step ranks width bound rules news olds coarser)
  have_old boxes same below patches under b s e p u =
      let widths = map (λ (r : Rules). r.width) rules in
      let number = length-map rules (λ (r : Rules). r.width) in
      record {
        all_news = count_ranks (λ rank. map (λ (b : Owned). b.bx) (own rank news)) ranks boxes b;
        all_pairs = count_ranks (λ rank. pair frame width step (alike (pos 1)) news coarser rank) ranks below e;
        all_patches = count_ranks (λ rank. first_fields bound fine_start widths (own rank olds)) ranks patches p;
        all_coarse = count_ranks (λ rank. first_fields bound coarse_start widths (own rank coarser)) ranks under u;
        each = λ r n c q v at_news at_below at_patches at_under.
            let mine = at_rank (λ rank. map (λ (b : Owned). b.bx) (own rank news)) ranks boxes r n b at_news in
            let pairs = at_rank (λ rank. pair frame width step (alike (pos 1)) news coarser rank) ranks below r c e at_below in
            let old = at_rank (λ rank. first_fields bound fine_start widths (own rank olds)) ranks patches r q p at_patches in
            let coarse = at_rank (λ rank. first_fields bound coarse_start widths (own rank coarser)) ranks under r v u at_under in
            record {
              is = h.is;
              same_rank = refl;
              within = mine.0;
              same_boxes = mine.1;
              same_old = its_old same r mine.0 s;
              same_coarser = pairs.1;
              same_step = refl;
              has = record {
                same_rules = refl;
                same_values = has_first bound fine_start widths (own r olds) q old.1 (all_own_rooms olds r widths h.old_rooms);
                fields = inr (count_first bound fine_start widths (own r olds) q old.1 ∙ number);
                coarse_values = has_first bound coarse_start widths (own r coarser) v coarse.1 (all_own_rooms coarser r widths h.coarse_rooms);
                coarse_fields = count_first bound coarse_start widths (own r coarser) v coarse.1 ∙ number;
              };
            };
      }

module _ (area : Area) (block step fine_block : IVec) (news olds ranks : ℕ) (width : IVec) (bound : ℕ) (rules : List Rules)
    (h : CanRefine area block step fine_block ranks width bound rules) where
  is_renewing : IsRenewing (renewing area block step fine_block news olds ranks width bound rules)
  is_renewing = record {
    area = finer_area area step;
    coarse_area = area;
    news = is_fine area block step fine_block ranks width h.cover news;
    olds = is_fine area block step fine_block ranks width h.cover olds;
    coarser = is_coarse area block step fine_block ranks width h.cover;
    ratio = h.cover.ratio;
    below = one_ratio;
    step = h.cover.ratio;
    product = one_times step;
    four = h.four;
    width = h.cover.positive;
    reach = h.cover.positive;
    over = lies_over area block step fine_block ranks width h.cover news;
    rules = h.fields.ranges;
    room = λ b r m n.
        let blocks = fine_blocks area step fine_block ranks in
        member_of_All (HasRoom r.width) b blocks (its_rooms blocks rules r h.hold.over_rooms n).rooms (Member-from_kept news blocks b m);
    coarse_fits = λ f r x there cell. first_fits bound coarse_start rules f r x h.fields there;
  }

  can_renew_over : CanRenewOver area.frame step ranks width bound rules (kept news (fine_blocks area step fine_block ranks)) (kept olds (fine_blocks area step fine_block ranks)) (level0 area block ranks)
  can_renew_over =
      let few = h.hold.few in
      let number = length-map rules (λ (r : Rules). r.width) in
      record {
        is = is_renewing;
        in_range = h.cover.in_range;
        same = h.cover.same;
        below = h.cover.below;
        few = omega (arith, few, number);
        some = h.fields.some;
        old_rooms = all_kept_rooms (fine_blocks area step fine_block ranks) olds (map (λ (r : Rules). r.width) rules) h.hold.over_rooms;
        coarse_rooms = h.hold.rooms;
      }

  -- the same, of lists that are equal to these
  pub can_from : (over new_boxes old_boxes coarser : List Owned) → over ≡ fine_blocks area step fine_block ranks
      → new_boxes ≡ kept news over → old_boxes ≡ kept olds over → coarser ≡ level0 area block ranks
      → CanRenewOver area.frame step ranks width bound rules new_boxes old_boxes coarser
  can_from over new_boxes old_boxes coarser o n m c =
      let new_is = n ∙ ap (kept news) o in
      let old_is = m ∙ ap (kept olds) o in
      subst (λ (l : List Owned). CanRenewOver area.frame step ranks width bound rules l old_boxes coarser) (sym new_is)
      (subst (λ (l : List Owned). CanRenewOver area.frame step ranks width bound rules (kept news (fine_blocks area step fine_block ranks)) l coarser) (sym old_is)
      (subst
      (λ (l : List Owned). CanRenewOver area.frame step ranks width bound rules (kept news (fine_blocks area step fine_block ranks)) (kept olds (fine_blocks area step fine_block ranks)) l)
      (sym c) can_renew_over))

-- of equal levels
pub same_renewing : (frame frame' : Space) (step : IVec) (ranks : ℕ) (width : IVec) (bound : ℕ) (rules : List Rules) (news news' olds olds' coarser coarser' : List Owned)
    → frame ≡ frame' → news ≡ news' → olds ≡ olds' → coarser ≡ coarser'
    → renewing_of frame step ranks width bound rules news olds coarser ≡ renewing_of frame' step ranks width bound rules news' olds' coarser'
same_renewing frame frame' step ranks width bound rules news news' olds olds' coarser coarser' d n o c =
    ap (λ (f : Space). renewing_of f step ranks width bound rules news olds coarser) d
    ∙ ap (λ (l : List Owned). renewing_of frame' step ranks width bound rules l olds coarser) n
    ∙ ap (λ (l : List Owned). renewing_of frame' step ranks width bound rules news' l coarser) o
    ∙ ap (λ (l : List Owned). renewing_of frame' step ranks width bound rules news' olds' l) c

pub same_blocks : (a a' : Area) (block step fine_block : IVec) (news olds ranks : ℕ) (width : IVec) (bound : ℕ) (rules rules' : List Rules) → a ≡ a' → rules ≡ rules'
    → renewing a block step fine_block news olds ranks width bound rules ≡ renewing a' block step fine_block news olds ranks width bound rules'
same_blocks a a' block step fine_block news olds ranks width bound rules rules' e f =
    ap (λ (v : Area). renewing v block step fine_block news olds ranks width bound rules) e
    ∙ ap (λ (l : List Rules). renewing a' block step fine_block news olds ranks width bound l) f

-- what all ranks have, from lists that are equal to these
pub have_from : (frame : Space) (step : IVec) (ranks : ℕ) (width : IVec) (bound : ℕ) (rules strategies : List Rules) (news olds coarser : List Owned)
    → CanRenewOver frame step ranks width bound rules news olds coarser → rules ≡ strategies
    → (boxes as_boxes : List (List Corners)) (same as_same below as_below : List Pair) (patches as_patches under as_under : List (List (List Grid))) (widths as_widths : List IVec) (one : IVec)
    → as_boxes ≡ boxes → as_same ≡ same → as_below ≡ below → as_patches ≡ patches → as_under ≡ under → as_widths ≡ widths → widths ≡ map (λ r. r.width) rules → one ≡ alike (pos 1)
    → boxes ≡ map (λ rank. map (λ b. b.bx) (own rank news)) (range_with_len 0 ranks)
    → (same ≡ map (λ rank. pair frame width step step news olds rank) (range_with_len 0 ranks)) ⊎ ((same ≡ []) × (olds ≡ []))
    → below ≡ map (λ rank. pair frame width step one news coarser rank) (range_with_len 0 ranks)
    → patches ≡ all_first bound fine_start as_widths olds ranks → under ≡ all_first bound coarse_start as_widths coarser ranks
    → HaveAllOld as_boxes as_same as_below step as_patches as_under strategies (renewing_of frame step ranks width bound rules news olds coarser)
have_from frame step ranks width bound rules strategies news olds coarser h r boxes as_boxes same as_same below as_below patches as_patches under as_under widths as_widths one
    b s e p u g w o boxes_are same_are below_are patches_are under_are =
    let ghosts = g ∙ w in
    subst (λ (l : List Rules). HaveAllOld as_boxes as_same as_below step as_patches as_under l (renewing_of frame step ranks width bound rules news olds coarser)) r
    (have_old frame step ranks width bound rules news olds coarser h as_boxes as_same as_below as_patches as_under
    (b ∙ boxes_are)
    (subst (λ (l : List Pair). (l ≡ map (λ rank. pair frame width step step news olds rank) (range_with_len 0 ranks)) ⊎ ((l ≡ []) × (olds ≡ []))) (sym s) same_are)
    (e ∙ below_are ∙ ap (λ (v : IVec). map (λ rank. pair frame width step v news coarser rank) (range_with_len 0 ranks)) o)
    (p ∙ patches_are ∙ ap (λ (l : List IVec). all_first bound fine_start l olds ranks) ghosts)
    (u ∙ under_are ∙ ap (λ (l : List IVec). all_first bound coarse_start l coarser ranks) ghosts))
