-- The stages of all ranks.
use Rattle.std.proofs.Common.{◌≡◌, ℕ, ◌<◌, length, get_or, sym, ap, ◌∙◌, refl, subst, arith, inl, inr}
use Rattle.std.proofs.lemmas.Bool.Decides.{nat_tests}
use Rattle.std.proofs.lemmas.Cmp.{tied_itself, nat_cmp_total}
use Rattle.std.proofs.lemmas.Option.{slice_get-get_or}
use Rattle.std.proofs.lemmas.List.Kept.{IsStrictlySortedBy-filter}
use Rattle.std.specs.Prelude.{nat_eq, List, [], ◌∷◌, ◌++◌, map, Some, slice_get}
use Rattle.std.specs.List.{All}
use Rattle.std.specs.List.Sorted.{IsStrictlySortedBy}
use Rattle.std.specs.Ordering.{nat_cmp, ordering_then}
use Rattle.std.specs.declared.cmp.Ordering.{Ordering}
use Rattle.std.specs.declared.cmp.Ordering.TheVariants.{Less, Equal}
use Rattle.samr_box.specs.declared.vector.IVec.{IVec}
use Rattle.samr_box.specs.Vector.{times, IsRatio}
use Rattle.samr_box.specs.Corners.{Corners}
use Rattle.samr_box.specs.Orders.{corner_cmp}
use Rattle.samr_box.specs.Lists.{Member}
use Rattle.samr_box.proofs.Ascending.{sorted-nil, sorted-cons, sorted-head, sorted-tail}
use Rattle.samr_box.proofs.Members.{Member-map, Member-from_map, Member-filter, Member-from_filter}
use Rattle.samr_stage.proofs.Mailboxes.{slice_get-push_cases}
use Rattle.samr_level.specs.declared.parts.Pair.{Pair}
use Rattle.samr_level.specs.Refs.{Owned, Link}
use Rattle.samr_level.specs.RefOrders.{ref_cmp}
use Rattle.samr_level.specs.Levels.{own}
use Rattle.samr_level.specs.Overlaps.{scale, true_overlaps}
use Rattle.samr_level.proofs.Overlapping.{Member-from_of_rank}
use Rattle.samr_data.specs.Grids.{Grid}
use Rattle.samr_ops.specs.declared.rules.CoarsenRule.{CoarsenRule}
use Rattle.samr_values.specs.Patches.{AreBased}
use Rattle.samr_values.specs.Coarsen.{Coarsening, IsRefinement, downs}
use Rattle.samr_values.specs.CoarsenParts.{HasFine}
use Rattle.samr_values.specs.Merging.{step_of}
use Rattle.samr_values.specs.CoarsenOnAll.{HaveAllFine}
use Rattle.samr_values.proofs.CoarsenStart.{same_step, same_forth}
use Rattle.samr_values.proofs.CoarsenRowLaws.{edge_facts}

-- one more element, at the place that is its number
pub each_more : {X : Type 0} (P : ℕ → X → Type 0) (xs ys : List X) (n : ℕ) (x : X) → length xs ≡ n → ((k : ℕ) (y : X) → slice_get xs k ≡ Some y → P k y) → P n x
    → ys ≡ xs ++ x ∷ [] → (k : ℕ) (y : X) → slice_get ys k ≡ Some y → P k y
each_more P xs ys n x len before here is k y got =
    elim (slice_get-push_cases xs x y k (ap (λ zs. slice_get zs k) (sym is) ∙ got)) [
      | inl last ↦ subst (λ m. P m y) (sym (last.0 ∙ len)) (subst (P n) last.1 here)
      | inr there ↦ before k y there
    ]

-- a rank's boxes stand in corner order
by_corner : (a b : Owned) → a.owner ≡ b.owner → ref_cmp a b ≡ Less → corner_cmp a.bx b.bx ≡ Less
by_corner a b e h =
    let tie : nat_cmp a.owner b.owner ≡ Equal = ap (λ (n : ℕ). nat_cmp n b.owner) e ∙ tied_itself nat_cmp_total b.owner in
    sym (ap (λ (o : Ordering). ordering_then o (corner_cmp a.bx b.bx)) tie) ∙ h

pub boxes_sorted : (r : ℕ) (level : List Owned) → IsStrictlySortedBy ref_cmp level → ((b : Owned) → Member b level → b.owner ≡ r)
    → IsStrictlySortedBy corner_cmp (map (λ b. b.bx) level)
boxes_sorted r [] s owner = sorted-nil corner_cmp
boxes_sorted r (a ∷ level) s owner =
    sorted-cons corner_cmp a.bx (map (λ b. b.bx) level)
    (λ c m.
    let b = Member-from_map (λ (b : Owned). b.bx) c level m in
    subst (λ (d : Corners). corner_cmp a.bx d ≡ Less) (sym b.2)
    (by_corner a b.0 (owner a (inl refl) ∙ sym (owner b.0 (inr b.1))) (sorted-head ref_cmp a level s b.0 b.1)))
    (boxes_sorted r level (sorted-tail ref_cmp a level s) (λ b m. owner b (inr m)))

pub own_member : (r : ℕ) (level : List Owned) (b : Owned) → Member b level → b.owner ≡ r → Member b (own r level)
unfolding own
own_member r level b m e = Member-filter (λ b. nat_eq b.owner r) b level m (grind (arith, nat_tests, e))

pub own_owner : (r : ℕ) (level : List Owned) (b : Owned) → Member b (own r level) → b.owner ≡ r
unfolding own
own_owner r level b m = let f = Member-from_filter (λ b. nat_eq b.owner r) b level m in grind (arith, nat_tests, f.1)

pub own_order : (r : ℕ) (level : List Owned) → IsStrictlySortedBy ref_cmp level → IsStrictlySortedBy ref_cmp (own r level)
unfolding own
own_order r level s = IsStrictlySortedBy-filter ref_cmp (λ b. nat_eq b.owner r) level s

-- what a rank has meets what the stage asks
module _ (rank ranks : ℕ) (p : Pair) (fine coarser : List (List Grid)) (rules : List CoarsenRule) (moduli : List ℕ) (w : Coarsening) (r : ℕ)
    (h : HasFine rank ranks p fine coarser rules moduli w r) where
  pub has_same : length rules ≡ length moduli
  has_same = ap length h.same_rules ∙ h.is.same_length ∙ sym (ap length h.same_moduli)

  pub has_some : All (λ m. 0 < m) moduli
  has_some = subst (λ (l : List ℕ). All (λ m. 0 < m) l) (sym h.same_moduli) h.is.some

  pub has_fields : length fine ≡ length rules
  has_fields = h.fine_fields ∙ sym (ap length h.same_rules)

  pub has_step : IsRatio (step_of p)
  has_step = subst (λ (v : IVec). IsRatio v) (sym (same_step rank ranks p fine coarser rules moduli w r h)) h.is.step

  its_edge : (e : Link) → Member e p.forth.edges → Member e (downs w r)
  its_edge e m = subst (λ (l : List Link). Member e l) (same_forth rank ranks p fine coarser rules moduli w r h) m

  pub has_based : AreBased p.forth.edges fine
  has_based n field got =
      let boxes = h.fine_values.full n field got in
      let mine = own r w.fine in
      record {
        order = subst (λ (l : List Corners). IsStrictlySortedBy corner_cmp l) (sym boxes) (boxes_sorted r mine (own_order r w.fine h.is.fine.in_order) (own_owner r w.fine));
        there = λ e m.
            let me = its_edge e m in
            let o = edge_facts w r e me in
            let owner = (Member-from_of_rank r (true_overlaps (scale w.frame w.width (times w.ratio w.step) w.ratio) w.fine w.coarser) e me).1 in
            subst (λ (l : List Corners). Member e.base.bx l) (sym boxes)
            (Member-map (λ (b : Owned). b.bx) e.base mine (own_member r w.fine e.base o.is_base owner));
      }

  pub has_refinements : (e : Link) → Member e p.forth.edges → IsRefinement (step_of p) e.base.bx
  has_refinements e m =
      subst (λ (v : IVec). IsRefinement v e.base.bx) (sym (same_step rank ranks p fine coarser rules moduli w r h))
      (h.is.refinements e.base (edge_facts w r e (its_edge e m)).is_base)

-- a rank's own among what all have
pub its_own : (pairs : List Pair) (fine coarser : List (List (List Grid))) (rules : List CoarsenRule) (moduli : List ℕ) (w : Coarsening)
    → HaveAllFine pairs fine coarser rules moduli w → (rank ranks place : ℕ) (p : Pair) (f g c : List (List Grid)) → rank < w.ranks → ranks ≡ w.ranks → place ≡ rank
    → p ≡ get_or pairs place p → f ≡ get_or fine place f → g ≡ f → c ≡ get_or coarser rank c → HasFine rank ranks p g c rules moduli w rank
its_own pairs fine coarser rules moduli w h rank ranks place p f g c within all same is_pair is_fine same_fine is_coarse =
    let one = h.pairs in
    let two = h.fine_ranks in
    let three = h.coarse_ranks in
    subst (λ (n : ℕ). HasFine rank n p g c rules moduli w rank) (sym all)
    (subst (λ (l : List (List Grid)). HasFine rank w.ranks p l c rules moduli w rank) (sym same_fine)
    (h.each rank p f c
    (slice_get-get_or pairs rank p (omega (arith, within, one)) ∙ ap (λ (x : Pair). Some x) (ap (λ (k : ℕ). get_or pairs k p) (sym same) ∙ sym is_pair))
    (slice_get-get_or fine rank f (omega (arith, within, two)) ∙ ap (λ (x : List (List Grid)). Some x) (ap (λ (k : ℕ). get_or fine k f) (sym same) ∙ sym is_fine))
    (slice_get-get_or coarser rank c (omega (arith, within, three)) ∙ ap (λ (x : List (List Grid)). Some x) (sym is_coarse))))
