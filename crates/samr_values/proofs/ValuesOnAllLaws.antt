-- What a rank has before the stage `Values`, among what all have.
use Rattle.std.proofs.Common.{◌≡◌, ℕ, ◌<◌, length, get_or, sym, ap, ◌∙◌, subst, inl, inr, arith}
use Rattle.std.proofs.lemmas.Option.{slice_get-get_or}
use Rattle.std.specs.Prelude.{List, [], Option, Some, None, slice_get}
use Rattle.std.specs.List.Sorted.{IsStrictlySortedBy}
use Rattle.samr_box.specs.declared.vector.IVec.{IVec}
use Rattle.samr_box.specs.Corners.{Corners}
use Rattle.samr_box.specs.Orders.{corner_cmp}
use Rattle.samr_box.specs.Lists.{Member}
use Rattle.samr_box.proofs.Members.{Member-map}
use Rattle.samr_level.specs.declared.parts.Pair.{Pair}
use Rattle.samr_level.specs.Refs.{Owned, Link}
use Rattle.samr_level.specs.RefOrders.{ref_cmp}
use Rattle.samr_level.specs.Levels.{own}
use Rattle.samr_level.specs.Overlaps.{Scale, scale, true_overlaps, of_rank}
use Rattle.samr_level.proofs.Overlapping.{Member-from_overlaps, Member-from_of_rank}
use Rattle.samr_data.specs.Grids.{Grid}
use Rattle.samr_ops.specs.declared.rules.Rules.{Rules}
use Rattle.samr_values.specs.Patches.{HasValues, AreBased, HaveNumber}
use Rattle.samr_values.specs.Values.{Renewing, old_ups}
use Rattle.samr_values.specs.ValuesParts.{KnowsOld, HasOld}
use Rattle.samr_values.specs.OldLevelEdges.{back_edges}
use Rattle.samr_values.specs.ValuesOnAll.{HaveAllOld}
use Rattle.samr_values.proofs.CoarsenOnAllLaws.{boxes_sorted, own_member, own_owner, own_order}
use Rattle.samr_values.proofs.ValuesStart.{none_from}

-- a rank's patches of a level stand at the bases of its edges
based_on : (n : Scale) (r : ℕ) (bases heads : List Owned) (values : ℕ → IVec → ℕ) (patches : List (List Grid)) → IsStrictlySortedBy ref_cmp bases
    → HasValues values (own r bases) patches → AreBased (of_rank r (true_overlaps n bases heads)) patches
based_on n r bases heads values patches order has f field got =
    let boxes = has.full f field got in
    record {
      order = subst (λ (l : List Corners). IsStrictlySortedBy corner_cmp l) (sym boxes) (boxes_sorted r (own r bases) (own_order r bases order) (own_owner r bases));
      there = λ e m.
          let its = Member-from_of_rank r (true_overlaps n bases heads) e m in
          let base = (Member-from_overlaps n bases heads e its.0).is_base in
          subst (λ (l : List Corners). Member e.base.bx l) (sym boxes)
          (Member-map (λ (b : Owned). b.bx) e.base (own r bases) (own_member r bases e.base base its.1));
    }

-- the edges back from an old level, also where there was none
back_is : (same : Option Pair) (w : Renewing) (r : ℕ) → KnowsOld same w r → back_edges same ≡ old_ups w r
back_is (Some p) w r knows = ap (λ (v : Pair). v.back.edges) knows
back_is None w r none =
    let n = scale w.frame w.width w.ratio w.ratio in
    sym (ap (λ (l : List Owned). of_rank r (true_overlaps n l w.news)) none ∙ none_from n r w.news)

-- what a rank has meets what the stage asks
module _ (rank : ℕ) (news : List Corners) (same : Option Pair) (coarser : Pair) (step : IVec) (patches coarse : List (List Grid)) (rules : List Rules) (w : Renewing) (r : ℕ)
    (h : HasOld rank news same coarser step patches coarse rules w r) where
  pub all_fields : HaveNumber (back_edges same) patches (length rules)
  all_fields = elim h.has.fields [
    | inl none ↦
        let n = scale w.frame w.width w.ratio w.ratio in
        let edges : old_ups w r ≡ [] = ap (λ (l : List Owned). of_rank r (true_overlaps n l w.news)) none.0 ∙ none_from n r w.news in
        inl (back_is same w r h.same_old ∙ edges, none.1)
    | inr all ↦ inr (all ∙ sym (ap (λ (l : List Rules). length l) h.has.same_rules))
  ]

  pub all_coarse_fields : length coarse ≡ length rules
  all_coarse_fields = h.has.coarse_fields ∙ sym (ap (λ (l : List Rules). length l) h.has.same_rules)

  pub old_based : AreBased (back_edges same) patches
  old_based =
      subst (λ (l : List Link). AreBased l patches) (sym (back_is same w r h.same_old))
      (based_on (scale w.frame w.width w.ratio w.ratio) r w.olds w.news w.values patches h.is.olds.in_order h.has.same_values)

  pub coarse_based : AreBased coarser.back.edges coarse
  coarse_based =
      subst (λ (l : List Link). AreBased l coarse) (sym (ap (λ (v : Pair). v.back.edges) h.same_coarser))
      (based_on (scale w.frame w.reach w.below w.ratio) r w.coarser w.news w.coarse_values coarse h.is.coarser.in_order h.has.coarse_values)

there_at : {X : Type 0} (xs : List X) (rank place : ℕ) (x : X) → rank < length xs → place ≡ rank → x ≡ get_or xs place x → slice_get xs rank ≡ Some x
there_at {X} xs rank place x below at is = slice_get-get_or xs rank x below ∙ ap (λ (y : X). Some y) (ap (λ (k : ℕ). get_or xs k x) (sym at) ∙ sym is)

-- a rank's own among what all have
module _ (news : List (List Corners)) (same coarser : List Pair) (step : IVec) (patches coarse : List (List (List Grid))) (rules : List Rules) (w : Renewing)
    (h : HaveAllOld news same coarser step patches coarse rules w) where
  pub its_old : (rank place : ℕ) (n boxes : List Corners) (old : Option Pair) (c : Pair) (p q mine below : List (List Grid)) → rank < w.ranks → place ≡ rank
      → n ≡ get_or news place n → boxes ≡ n → old ≡ slice_get same place → c ≡ get_or coarser place c → p ≡ get_or patches place p → mine ≡ p
      → q ≡ get_or coarse place q → below ≡ q → HasOld rank boxes old c step mine below rules w rank
  its_old rank place n boxes old c p q mine below within at is_news same_boxes is_old is_pair is_patches same_patches is_coarse same_coarse =
      let one = h.all_news in
      let two = h.all_pairs in
      let three = h.all_patches in
      let four = h.all_coarse in
      let has : HasOld rank n (slice_get same rank) c step p q rules w rank = h.each rank n c p q
      (there_at news rank place n (omega (arith, within, one)) at is_news)
      (there_at coarser rank place c (omega (arith, within, two)) at is_pair)
      (there_at patches rank place p (omega (arith, within, three)) at is_patches)
      (there_at coarse rank place q (omega (arith, within, four)) at is_coarse) in
      subst (λ (l : List Corners). HasOld rank l old c step mine below rules w rank) (sym same_boxes)
      (subst (λ (o : Option Pair). HasOld rank n o c step mine below rules w rank) (sym (is_old ∙ ap (λ (k : ℕ). slice_get same k) at))
      (subst (λ (l : List (List Grid)). HasOld rank n (slice_get same rank) c step l below rules w rank) (sym same_patches)
      (subst (λ (l : List (List Grid)). HasOld rank n (slice_get same rank) c step p l rules w rank) (sym same_coarse) has)))
