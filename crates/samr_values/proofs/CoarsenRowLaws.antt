-- What a rank hears of the cells of its coarse boxes.
use Rattle.std.proofs.Common.{◌≡◌, ℕ, ◌<◌, refl, sym, ap, subst, ◌∙◌, inl, inr, arith}
use Rattle.std.proofs.lemmas.Bool.{and_parts, and_from, cases_eq}
use Rattle.std.proofs.lemmas.Bool.Decides.{nat_tests}
use Rattle.std.proofs.lemmas.List.Folds.{flat_map-map}
use Rattle.std.specs.Prelude.{Bool, true, false, ◌&&◌, not, nat_eq, List, filter, Option, Some, pos}
use Rattle.std.specs.List.{All, flat_map, filter_map}
use Rattle.std.specs.Option.{option_map}
use Rattle.samr_box.specs.declared.vector.IVec.{IVec}
use Rattle.samr_box.specs.Vector.{alike, times, AtMost, at_most}
use Rattle.samr_box.specs.Corners.{Corners, Holds, holds, holds_box, met, common}
use Rattle.samr_box.specs.Ratios.{coarsened, refined}
use Rattle.samr_box.specs.Lists.{Member}
use Rattle.samr_box.proofs.CellSets.{at_most-from, Holds-test, holds-from, Holds-refined, Holds-common, order-common, Meet-test, met-cells, holds_box-means}
use Rattle.samr_box.proofs.Members.{Member-append_left, Member-append_right, Member-from_append, Member-filter, Member-from_filter, Member-filter_map, Member-from_filter_map, Member-flat_map, Member-from_flat_map, All-from_members}
use Rattle.samr_box.proofs.Vectors.{AtMost-refl}
use Rattle.samr_stage.specs.declared.stage.Held.{Held}
use Rattle.samr_stage.specs.Row.{heard, column}
use Rattle.samr_level.specs.Refs.{Owned, Link, link, turned}
use Rattle.samr_level.specs.RefOrders.{in_order}
use Rattle.samr_level.specs.Overlaps.{scale, true_overlaps, IsTrueOverlap}
use Rattle.samr_level.proofs.Sorting.{Member-in_order, Member-from_in_order}
use Rattle.samr_level.proofs.Overlapping.{Member-overlaps, Member-from_overlaps, Member-of_rank, Member-from_of_rank, zero_shift}
use Rattle.samr_data.specs.Values.{value_in}
use Rattle.samr_data.proofs.Lists.{length-listed, value_in-listed}
use Rattle.samr_data.proofs.PlaceLaws.{part_cells, same_test}
use Rattle.samr_ops.specs.declared.rules.CoarsenRule.{CoarsenRule}
use Rattle.samr_peers.specs.Peers.{peer_row, AreTransposes}
use Rattle.samr_peers.proofs.PeerRows.{heard_in, heard_out}
use Rattle.samr_peers.proofs.PairTurns.{pair_turns}
use Rattle.samr_data.specs.declared.parcel.Parcel.{Parcel}
use Rattle.samr_data.specs.ParcelOrder.{parcel_cmp}
use Rattle.samr_data.proofs.ParcelOrderLaws.{parcel_total, same_from_parcel_cmp}
use Rattle.samr_values.specs.Parcels.{IsParcel, is_for, same_box, has_fine, is_told, Tell}
use Rattle.samr_values.specs.ValuesRow.{leads_to, parcel_of}
use Rattle.samr_values.specs.Coarsen.{Coarsening, IsCoarsening, fields, merged, is_under, downs, ups}
use Rattle.samr_values.specs.CoarsenRow.{merged_parcel, all_merged, coarse_parcels}
use Rattle.samr_values.specs.Merging.{merges, merge_of, merged_along, merged_to, parcels_with}
use Rattle.samr_values.proofs.Written.{for_is}
use Rattle.samr_values.proofs.Merges.{coarsened_refined}
use Rattle.samr_values.proofs.Under.{any_is, any_from, some_and, mapped, met_some, coarse_times, near_over}

-- where a parcel that a rank sends comes from
pub record IsFrom (w : Coarsening) (sender to : ℕ) (q : Parcel) : Type 0 where
  pub of_field : ℕ × (CoarsenRule × ℕ)
  pub edge : Link
  pub region : Corners
  pub is_field : Member of_field (fields w)
  pub is_edge : Member edge (downs w sender)
  pub leads : leads_to to edge ≡ true
  pub is_region : met (coarsened edge.base.bx w.step) edge.head.bx ≡ Some region
  pub is : q ≡ parcel_of edge false of_field.0 (merged w of_field) region

box_itself : (b : Corners) → holds_box b b ≡ true
box_itself b = and_from (at_most b.lo b.lo) (at_most b.hi b.hi) (at_most-from {a = b.lo} {b = b.lo} (AtMost-refl b.lo)) (at_most-from {a = b.hi} {b = b.hi} (AtMost-refl b.hi))

equal_itself : (n : ℕ) → nat_eq n n ≡ true
equal_itself n = grind (arith, nat_tests)

pub is_for_it : (n : ℕ) (b c : Corners) → b ≡ c → (nat_eq n n && same_box b c) ≡ true
is_for_it n b c same =
    and_from (nat_eq n n) (same_box b c) (equal_itself n)
    (subst (λ (d : Corners). same_box b d ≡ true) same (and_from (holds_box b b) (holds_box b b) (box_itself b) (box_itself b)))

pub same_number : (a b : ℕ) → nat_eq a b ≡ true → a ≡ b
same_number a b t = grind (arith, nat_tests, t)

module _ (w : Coarsening) where
  pub sent_is : (sender to : ℕ) → merged_to (merges w.step w.rules w.moduli) w.fine_values (downs w sender) to ≡ coarse_parcels w sender to
  unfolding merged_to coarse_parcels
  sent_is sender to =
      ap (in_order parcel_cmp)
      (flat_map-map (λ m. filter_map (λ e. merged_along m (w.fine_values m.field) e) (filter (λ e. leads_to to e) (downs w sender)))
      (λ (f : ℕ × (CoarsenRule × ℕ)). merge_of w.step f) (fields w))

  pub from_parcels : (sender to : ℕ) (q : Parcel) → Member q (coarse_parcels w sender to) → IsFrom w sender to q
  unfolding coarse_parcels
  from_parcels sender to q m =
      let edges = filter (λ e. leads_to to e) (downs w sender) in
      let all = Member-from_in_order parcel_total q (all_merged w sender to) m in
      let r = Member-from_flat_map (λ f. filter_map (λ e. merged_parcel w f e) edges) q (fields w) all in
      let s = Member-from_filter_map (λ e. merged_parcel w r.0 e) q edges r.2 in
      let g = Member-from_filter (λ e. leads_to to e) s.0 (downs w sender) s.1 in
      let p = mapped (parcel_of s.0 false r.0.0 (merged w r.0)) (met (coarsened s.0.base.bx w.step) s.0.head.bx) q s.2 in
      record { of_field = r.0; edge = s.0; region = p.0; is_field = r.1; is_edge = g.0; leads = g.1; is_region = p.1; is = p.2 }

  pub parcels_have : (sender to : ℕ) (f : ℕ × (CoarsenRule × ℕ)) (e : Link) (region : Corners) → Member f (fields w) → Member e (downs w sender) → leads_to to e ≡ true
      → met (coarsened e.base.bx w.step) e.head.bx ≡ Some region → Member (parcel_of e false f.0 (merged w f) region) (coarse_parcels w sender to)
  unfolding coarse_parcels
  parcels_have sender to f e region mf me t is =
      let edges = filter (λ e. leads_to to e) (downs w sender) in
      let q = parcel_of e false f.0 (merged w f) region in
      Member-in_order parcel_total same_from_parcel_cmp q (all_merged w sender to)
      (Member-flat_map (λ f. filter_map (λ e. merged_parcel w f e) edges) q f (fields w) mf
      (Member-filter_map (λ e. merged_parcel w f e) q e edges (Member-filter (λ e. leads_to to e) e (downs w sender) me t)
      (ap (λ (o : Option Corners). option_map (parcel_of e false f.0 (merged w f)) o) is)))

  pub edge_facts : (sender : ℕ) (e : Link) → Member e (downs w sender) → IsTrueOverlap (scale w.frame w.width (times w.ratio w.step) w.ratio) w.fine w.coarser e
  edge_facts sender e m =
      let n = scale w.frame w.width (times w.ratio w.step) w.ratio in
      Member-from_overlaps n w.fine w.coarser e (Member-from_of_rank sender (true_overlaps n w.fine w.coarser) e m).0

module _ (w : Coarsening) (t : IsCoarsening w) where
  pub edges_turn : AreTransposes w.ranks (downs w) (ups w)
  edges_turn = pair_turns w.frame w.width (times w.ratio w.step) w.ratio w.fine w.coarser w.ranks t.fine.owners t.coarser.owners

  -- the region of a parcel
  region_is : (sender to : ℕ) (q : Parcel) (h : IsFrom w sender to q) → (c : Corners) × AtMost c.lo c.hi × (h.edge.base.bx ≡ refined c w.step) × (h.region ≡ common c h.edge.head.bx)
      × AtMost h.region.lo h.region.hi
  region_is sender to q h =
      let o = edge_facts w sender h.edge h.is_edge in
      let r = t.refinements h.edge.base o.is_base in
      let c = r.0 in
      let head = h.edge.head.bx in
      let under : coarsened h.edge.base.bx w.step ≡ c = ap (λ (b : Corners). coarsened b w.step) r.2 ∙ coarsened_refined c w.step t.step in
      let s = met_some c head h.region (subst (λ (b : Corners). met b head ≡ Some h.region) under h.is_region) in
      let full = order-common {a = c} {b = head} r.1.order (t.coarser.not_empty h.edge.head o.is_head) (Meet-test {a = c} {b = head} s.1) in
      (c, r.1.order, r.2, s.0, subst (λ (b : Corners). AtMost b.lo b.hi) (sym s.0) full)

  pub is_parcel : (sender to : ℕ) (q : Parcel) → IsFrom w sender to q → IsParcel q
  is_parcel sender to q h =
      let o = edge_facts w sender h.edge h.is_edge in
      let head = h.edge.head.bx in
      let (c, full, base, is, order) = region_is sender to q h in
      let inside = (holds_box-means head h.region order).1 (λ x g. ((Holds-common c head x).0 (subst (λ (b : Corners). Holds b x) is g)).1) in
      let less = part_cells head h.region inside order in
      let room = t.room h.edge.head o.is_head in
      subst (λ (p : Parcel). IsParcel p) (sym h.is)
      (record { full = length-listed h.region (merged w h.of_field); few = omega (arith, less, room); inside = λ e. inside })

  -- its cells lie in the head, under the fine level, and have the merged values
  pub told_from : (sender to : ℕ) (q : Parcel) (x : IVec) → IsFrom w sender to q → Holds q.region x → Holds q.edge.head.bx x × (is_under w x ≡ true)
  told_from sender to q x h g =
      let o = edge_facts w sender h.edge h.is_edge in
      let head = h.edge.head.bx in
      let (c, full, base, is, order) = region_is sender to q h in
      let there : Holds h.region x = subst (λ (p : Parcel). Holds p.region x) h.is g in
      let both = (Holds-common c head x).0 (subst (λ (b : Corners). Holds b x) is there) in
      let y = times x w.step in
      let over : Holds (refined c w.step) y = (Holds-refined c w.step y t.step).1 (subst (λ (v : IVec). Holds c v) (sym (coarse_times x w.step t.step)) both.0) in (
        subst (λ (p : Parcel). Holds p.edge.head.bx x) (sym h.is) both.1,
        any_is (λ (b : Owned). holds b.bx y) h.edge.base w.fine o.is_base
            (subst (λ (b : Corners). holds b y ≡ true) (sym base) (holds-from {b = refined c w.step} {x = y} over)),
      )

  pub value_is : (sender to : ℕ) (q : Parcel) (x : IVec) (h : IsFrom w sender to q) → Holds q.region x → value_in q.region q.values x ≡ merged w h.of_field x
  value_is sender to q x h g =
      subst (λ (p : Parcel). value_in p.region p.values x ≡ merged w h.of_field x) (sym h.is)
      (value_in-listed h.region (merged w h.of_field) x (subst (λ (p : Parcel). Holds p.region x) h.is g))

  -- a cell of a rank's box under the fine level is in a parcel that a rank has for it
  pub told_by : (r : ℕ) (a : Owned) (x : IVec) (f : ℕ × (CoarsenRule × ℕ)) → Member a w.coarser → a.owner ≡ r → Holds a.bx x → is_under w x ≡ true → Member f (fields w)
      → (e : Link) × (region : Corners) × Member e (downs w e.base.owner) × (e.head ≡ a) × Holds region x
      × Member (parcel_of e false f.0 (merged w f) region) (coarse_parcels w e.base.owner r)
  told_by r a x f ma owner ha under mf =
      let y = times x w.step in
      let found = any_from (λ (b : Owned). holds b.bx y) w.fine under in
      let b = found.0 in
      let hb = Holds-test {b = b.bx} {x = y} found.2 in
      let s = t.refinements b found.1 in
      let c = s.0 in
      let e : Link = link b a (alike (pos 0)) in
      let n = scale w.frame w.width (times w.ratio w.step) w.ratio in
      let near = near_over w.frame w.width w.ratio w.step b.bx a.bx x t.ratio t.step t.width (t.fine.not_empty b found.1) (t.coarser.not_empty a ma) hb ha in
      let overlap : IsTrueOverlap n w.fine w.coarser e = record { is_base = found.1; is_head = ma; is_shift = zero_shift w.frame.periodic; is_near = near } in
      let me = Member-of_rank b.owner (true_overlaps n w.fine w.coarser) e (Member-overlaps n w.fine w.coarser e overlap) refl in
      let hc : Holds c x =
      subst (λ (v : IVec). Holds c v) (coarse_times x w.step t.step) ((Holds-refined c w.step y t.step).0 (subst (λ (d : Corners). Holds d y) s.2 hb)) in
      let there : coarsened b.bx w.step ≡ c = ap (λ (d : Corners). coarsened d w.step) s.2 ∙ coarsened_refined c w.step t.step in
      let region = some_and (λ (d : Corners). Holds d x) (met (coarsened b.bx w.step) a.bx)
      ((met-cells (coarsened b.bx w.step) a.bx x).1 (subst (λ (d : Corners). Holds d x) (sym there) hc, ha)) in
      let mine : nat_eq a.owner r ≡ true = grind (arith, nat_tests, owner) in
      let leads : leads_to r e ≡ true = and_from (nat_eq a.owner r) true mine refl in
      (e, region.0, me, refl, region.2, parcels_have w b.owner r f e region.0 mf me leads region.1)

  module _ (r : ℕ) (within : r < w.ranks) (own_parcels : List Parcel) (held : List (Held (List Parcel))) (is : own_parcels ≡ coarse_parcels w r r)
      (are : held ≡ heard (column (peer_row w.ranks (downs w) (coarse_parcels w)) r) w.ranks) where
    pub all_from : (q : Parcel) → Member q (parcels_with own_parcels held) → (sender : ℕ) × IsFrom w sender r q
    all_from q m = elim (Member-from_append q own_parcels (flat_map (λ letter. letter.body) held) m) [
      | inl here ↦ (r, from_parcels w r r q (subst (λ (l : List Parcel). Member q l) is here))
      | inr there ↦
          let s = Member-from_flat_map (λ (letter : Held (List Parcel)). letter.body) q held there in
          let out = heard_out w.ranks (downs w) (ups w) (coarse_parcels w) edges_turn r within s.0 (subst (λ (l : List (Held (List Parcel))). Member s.0 l) are s.1) in
          (s.0.sender, from_parcels w s.0.sender r q (subst (λ (l : List Parcel). Member q l) out.0 s.2))
    ]

    pub all_have : (e : Link) (q : Parcel) → Member e (downs w e.base.owner) → e.head.owner ≡ r → Member q (coarse_parcels w e.base.owner r) → Member q (parcels_with own_parcels held)
    all_have e q me owner m = elim (cases_eq e.base.owner r) [
      | inl here ↦
          Member-append_left q own_parcels (flat_map (λ letter. letter.body) held)
          (subst (λ (l : List Parcel). Member q l) (sym is) (subst (λ (k : ℕ). Member q (coarse_parcels w k r)) here m))
      | inr other ↦
          let turn = edges_turn.forth e.base.owner e me in
          let mine : Member (turned e) (ups w r) = subst (λ (k : ℕ). Member (turned e) (ups w k)) owner turn.2 in
          let letter : Held (List Parcel) = record { sender = e.base.owner; body = coarse_parcels w e.base.owner r } in
          let there = heard_in w.ranks (downs w) (ups w) (coarse_parcels w) edges_turn r within (turned e) mine other in
          Member-append_right q own_parcels (flat_map (λ letter. letter.body) held)
          (Member-flat_map (λ (letter : Held (List Parcel)). letter.body) q letter held (subst (λ (l : List (Held (List Parcel))). Member letter l) (sym are) there) m)
    ]

    pub all_parcels : All IsParcel (parcels_with own_parcels held)
    all_parcels = All-from_members IsParcel (parcels_with own_parcels held) (λ q m. let s = all_from q m in is_parcel s.0 r q s.1)

    -- told is what lies under the fine level
    pub told_is : (f : ℕ × (CoarsenRule × ℕ)) (a : Owned) (x : IVec) → Member f (fields w) → Member a w.coarser → a.owner ≡ r
        → is_told f.0 a.bx (parcels_with own_parcels held) x ≡ (holds a.bx x && is_under w x)
    told_is f a x mf ma owner =
        let all = parcels_with own_parcels held in
        let has_it : Parcel → Bool = λ q. has_fine f.0 a.bx q && holds q.region x in
        same_test (is_told f.0 a.bx all x) (holds a.bx x && is_under w x)
        (λ test.
        let q = any_from has_it all test in
        let both = and_parts (has_fine f.0 a.bx q.0) (holds q.0.region x) q.2 in
        let fine = and_parts (not q.0.is_coarse) (is_for f.0 a.bx q.0) both.0 in
        let s = all_from q.0 q.1 in
        let there = told_from s.0 r q.0 x s.1 (Holds-test {b = q.0.region} {x = x} both.1) in
        and_from (holds a.bx x) (is_under w x)
        (holds-from {b = a.bx} {x = x} (subst (λ (b : Corners). Holds b x) (for_is f.0 a.bx q.0 fine.1) there.0)) there.1)
        (λ test.
        let both = and_parts (holds a.bx x) (is_under w x) test in
        let (e, region, me, head, hx, mq) = told_by r a x f ma owner (Holds-test {b = a.bx} {x = x} both.0) both.1 mf in
        let q : Parcel = parcel_of e false f.0 (merged w f) region in
        let here = all_have e q me (ap (λ (b : Owned). b.owner) head ∙ owner) mq in
        any_is has_it q all here
        (and_from (has_fine f.0 a.bx q) (holds region x) (is_for_it f.0 e.head.bx a.bx (ap (λ (b : Owned). b.bx) head)) (holds-from {b = region} {x = x} hx)))

    -- the values agree
    pub values_tell : (values : ℕ → IVec → ℕ) → ((f : ℕ × (CoarsenRule × ℕ)) (x : IVec) → Member f (fields w) → merged w f x ≡ values f.0 x)
        → (n : ℕ) (b : Corners) → Tell n b (parcels_with own_parcels held) (values n)
    values_tell values same n b = λ q x m fine hx.
        let s = all_from q m in
        let h = s.1 in
        let for_it = (and_parts (not q.is_coarse) (is_for n b q) fine).1 in
        let number : q.field ≡ n = same_number q.field n (and_parts (nat_eq q.field n) (same_box q.edge.head.bx b) for_it).0 in
        let its : h.of_field.0 ≡ n = sym (ap (λ (p : Parcel). p.field) h.is) ∙ number in
        value_is s.0 r q x h hx ∙ same h.of_field x h.is_field ∙ ap (λ (k : ℕ). values k x) its
