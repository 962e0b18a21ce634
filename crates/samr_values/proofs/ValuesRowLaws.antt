-- What a rank sends of its old values for a new level, who hears it, and where each parcel comes from.
use Rattle.std.proofs.Common.{◌≡◌, ℕ, ◌<◌, refl, sym, ap, ◌∙◌, inl, inr, arith, length, sum_by}
use Rattle.std.specs.Prelude.{Bool, true, false, List, ◌++◌, map, filter, ◌⊎◌, Option, Some}
use Rattle.std.specs.List.{filter_map, range_with_len}
use Rattle.std.specs.Option.{option_map}
use Rattle.samr_box.specs.declared.vector.IVec.{IVec}
use Rattle.samr_box.specs.Corners.{Corners, met}
use Rattle.samr_box.specs.Ratios.{coarsened}
use Rattle.samr_box.specs.Lists.{Member}
use Rattle.samr_box.proofs.Members.{Member-append_left, Member-append_right, Member-from_append, Member-filter, Member-from_filter, Member-filter_map, Member-from_filter_map, Member-flat_map, Member-from_flat_map}
use Rattle.samr_stage.specs.declared.stage.Held.{Held}
use Rattle.samr_stage.specs.Row.{told, heard, column}
use Rattle.samr_level.specs.Refs.{Link, turned}
use Rattle.samr_level.specs.Overlaps.{scale, true_overlaps, IsTrueOverlap}
use Rattle.samr_level.proofs.Sorting.{Member-in_order, Member-from_in_order}
use Rattle.samr_level.proofs.Overlapping.{Member-from_overlaps, Member-from_of_rank}
use Rattle.samr_peers.specs.Peers.{other_owners, peer_row, TurnsInto, AreTransposes}
use Rattle.samr_peers.proofs.PeerRows.{letters_are, count_is, Member-range, Member-from_range}
use Rattle.samr_peers.proofs.PairTurns.{pair_turns}
use Rattle.samr_data.specs.declared.parcel.Parcel.{Parcel}
use Rattle.samr_data.proofs.ParcelOrderLaws.{parcel_total, same_from_parcel_cmp}
use Rattle.samr_values.specs.Values.{Renewing, IsRenewing, old_ups, coarse_ups, to_olds, downs}
use Rattle.samr_values.specs.ValuesRow.{leads_to, parcel_of, old_parcel, coarse_parcel, packed_by, parcels, sends, hears, values_row}
use Rattle.samr_values.proofs.Under.{mapped}

pub row_is : (w : Renewing) → values_row w ≡ peer_row w.ranks (sends w) (parcels w)
unfolding values_row
row_is w = refl

-- edges to and from one level and those to and from another, joined
turns_both : (ranks : ℕ) (a b c d : ℕ → List Link) → TurnsInto ranks a b → TurnsInto ranks c d → TurnsInto ranks (λ r. a r ++ c r) (λ r. b r ++ d r)
turns_both ranks a b c d p q rank e m = elim (Member-from_append e (a rank) (c rank) m) [
  | inl one ↦ let t = p rank e one in (t.0, t.1, Member-append_left (turned e) (b e.head.owner) (d e.head.owner) t.2)
  | inr other ↦ let t = q rank e other in (t.0, t.1, Member-append_right (turned e) (b e.head.owner) (d e.head.owner) t.2)
]

module _ (w : Renewing) (t : IsRenewing w) where
  pub olds_turn : AreTransposes w.ranks (old_ups w) (to_olds w)
  olds_turn = pair_turns w.frame w.width w.ratio w.ratio w.olds w.news w.ranks t.olds.owners t.news.owners

  pub coarse_turn : AreTransposes w.ranks (coarse_ups w) (downs w)
  coarse_turn = pair_turns w.frame w.reach w.below w.ratio w.coarser w.news w.ranks t.coarser.owners t.news.owners

  pub sends_turn : AreTransposes w.ranks (sends w) (hears w)
  sends_turn = record {
    forth = turns_both w.ranks (old_ups w) (to_olds w) (coarse_ups w) (downs w) olds_turn.forth coarse_turn.forth;
    home = turns_both w.ranks (to_olds w) (old_ups w) (downs w) (coarse_ups w) olds_turn.home coarse_turn.home;
  }

-- what the rank tells, and how many letters come for it
pub letters_from : (w : Renewing) → IsRenewing w → (r : ℕ) → r < w.ranks
    → told (values_row w r) w.ranks ≡ map (λ to. (to, parcels w r to)) (other_owners r (sends w r))
letters_from w t r within =
    ap (λ row. told (row r) w.ranks) (row_is w)
    ∙ letters_are w.ranks (sends w) (hears w) (parcels w) (sends_turn w t) r within

pub count_from : (w : Renewing) → IsRenewing w → (r : ℕ) → r < w.ranks
    → length (other_owners r (hears w r)) ≡ sum_by (λ (held : Held (List Parcel)). 1) (heard (column (values_row w) r) w.ranks)
count_from w t r within =
    count_is w.ranks (sends w) (hears w) (parcels w) (sends_turn w t) r within
    ∙ ap (λ row. sum_by (λ (held : Held (List Parcel)). 1) (heard (column row r) w.ranks)) (sym (row_is w))

-- a parcel of a field along one of these edges, with values of the cells of its region
pub record IsAlong (edges : List Link) (region_of : Link → Option Corners) (under : Bool) (values : ℕ → IVec → ℕ) (fields to : ℕ) (q : Parcel) : Type 0 where
  pub field : ℕ
  pub edge : Link
  pub region : Corners
  pub is_field : field < fields
  pub is_edge : Member edge edges
  pub leads : leads_to to edge ≡ true
  pub is_region : region_of edge ≡ Some region
  pub is : q ≡ parcel_of edge under field (values field) region

module _ (edges : List Link) (region_of : Link → Option Corners) (under : Bool) (values : ℕ → IVec → ℕ) (fields to : ℕ) where
  along_from : (f : ℕ) (q : Parcel) → f < fields
      → Member q (filter_map (λ e. option_map (parcel_of e under f (values f)) (region_of e)) (filter (λ e. leads_to to e) edges))
      → IsAlong edges region_of under values fields to q
  along_from f q below m =
      let s = Member-from_filter_map (λ e. option_map (parcel_of e under f (values f)) (region_of e)) q (filter (λ e. leads_to to e) edges) m in
      let g = Member-from_filter (λ e. leads_to to e) s.0 edges s.1 in
      let p = mapped (parcel_of s.0 under f (values f)) (region_of s.0) q s.2 in
      record { field = f; edge = s.0; region = p.0; is_field = below; is_edge = g.0; leads = g.1; is_region = p.1; is = p.2 }

  along_has : (f : ℕ) (e : Link) (region : Corners) → Member e edges → leads_to to e ≡ true → region_of e ≡ Some region
      → Member (parcel_of e under f (values f) region)
      (filter_map (λ e. option_map (parcel_of e under f (values f)) (region_of e)) (filter (λ e. leads_to to e) edges))
  along_has f e region m leads is =
      Member-filter_map (λ e. option_map (parcel_of e under f (values f)) (region_of e)) (parcel_of e under f (values f) region) e
      (filter (λ e. leads_to to e) edges) (Member-filter (λ e. leads_to to e) e edges m leads)
      (ap (λ (o : Option Corners). option_map (parcel_of e under f (values f)) o) is)

-- the cells of an old box in a new one, and of a coarse box under a new one
abbrev pub old_region : Link → Option Corners
old_region e = met e.base.bx e.head.bx

abbrev pub coarse_region : IVec → Link → Option Corners
coarse_region step e = met e.base.bx (coarsened e.head.bx step)

-- a parcel of old values, and one of coarse values
abbrev pub IsOld : Renewing → ℕ → ℕ → Parcel → Type 0
IsOld w sender to q = IsAlong (old_ups w sender) (λ e. old_region e) false w.values (length w.rules) to q

abbrev pub IsCoarse : Renewing → ℕ → ℕ → Parcel → Type 0
IsCoarse w sender to q = IsAlong (coarse_ups w sender) (λ e. coarse_region w.step e) true w.coarse_values (length w.rules) to q

-- those of a field, in two parts
abbrev olds_of : Renewing → ℕ → ℕ → ℕ → List Parcel
olds_of w sender to f = filter_map (λ e. old_parcel f (w.values f) e) (filter (λ e. leads_to to e) (old_ups w sender))

abbrev coarse_of : Renewing → ℕ → ℕ → ℕ → List Parcel
coarse_of w sender to f = filter_map (λ e. coarse_parcel f w.step (w.coarse_values f) e) (filter (λ e. leads_to to e) (coarse_ups w sender))

module _ (w : Renewing) (sender to : ℕ) where
  abbrev all_packed : List Parcel
  all_packed = packed_by w.step w.values w.coarse_values (old_ups w sender) (coarse_ups w sender) (length w.rules) to

  pub from_parcels : (q : Parcel) → Member q (parcels w sender to) → IsOld w sender to q ⊎ IsCoarse w sender to q
  unfolding parcels
  from_parcels q m =
      let all = Member-from_in_order parcel_total q all_packed m in
      let s = Member-from_flat_map (λ f. olds_of w sender to f ++ coarse_of w sender to f) q (range_with_len 0 (length w.rules)) all in
      let range = (Member-from_range (length w.rules) 0 s.0 s.1).1 in
      let below : s.0 < length w.rules = omega (arith, range) in
      elim (Member-from_append q (olds_of w sender to s.0) (coarse_of w sender to s.0) s.2) [
        | inl here ↦ inl (along_from (old_ups w sender) (λ e. old_region e) false w.values (length w.rules) to s.0 q below here)
        | inr there ↦ inr (along_from (coarse_ups w sender) (λ e. coarse_region w.step e) true w.coarse_values (length w.rules) to s.0 q below there)
      ]

  pub old_in : (f : ℕ) (e : Link) (region : Corners) → f < length w.rules → Member e (old_ups w sender) → leads_to to e ≡ true
      → old_region e ≡ Some region → Member (parcel_of e false f (w.values f) region) (parcels w sender to)
  unfolding parcels
  old_in f e region below m leads is =
      let q = parcel_of e false f (w.values f) region in
      Member-in_order parcel_total same_from_parcel_cmp q all_packed
      (Member-flat_map (λ f. olds_of w sender to f ++ coarse_of w sender to f) q f (range_with_len 0 (length w.rules))
      (Member-range (length w.rules) 0 f (omega arith) (omega (arith, below)))
      (Member-append_left q (olds_of w sender to f) (coarse_of w sender to f)
      (along_has (old_ups w sender) (λ e. old_region e) false w.values (length w.rules) to f e region m leads is)))

  pub coarse_in : (f : ℕ) (e : Link) (region : Corners) → f < length w.rules → Member e (coarse_ups w sender) → leads_to to e ≡ true
      → coarse_region w.step e ≡ Some region → Member (parcel_of e true f (w.coarse_values f) region) (parcels w sender to)
  unfolding parcels
  coarse_in f e region below m leads is =
      let q = parcel_of e true f (w.coarse_values f) region in
      Member-in_order parcel_total same_from_parcel_cmp q all_packed
      (Member-flat_map (λ f. olds_of w sender to f ++ coarse_of w sender to f) q f (range_with_len 0 (length w.rules))
      (Member-range (length w.rules) 0 f (omega arith) (omega (arith, below)))
      (Member-append_right q (olds_of w sender to f) (coarse_of w sender to f)
      (along_has (coarse_ups w sender) (λ e. coarse_region w.step e) true w.coarse_values (length w.rules) to f e region m leads is)))

  -- the edges are true overlaps
  pub old_edge : (e : Link) → Member e (old_ups w sender) → IsTrueOverlap (scale w.frame w.width w.ratio w.ratio) w.olds w.news e
  old_edge e m =
      let n = scale w.frame w.width w.ratio w.ratio in
      Member-from_overlaps n w.olds w.news e (Member-from_of_rank sender (true_overlaps n w.olds w.news) e m).0

  pub coarse_edge : (e : Link) → Member e (coarse_ups w sender) → IsTrueOverlap (scale w.frame w.reach w.below w.ratio) w.coarser w.news e
  coarse_edge e m =
      let n = scale w.frame w.reach w.below w.ratio in
      Member-from_overlaps n w.coarser w.news e (Member-from_of_rank sender (true_overlaps n w.coarser w.news) e m).0
