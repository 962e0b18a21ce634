-- What a rank hears tells the values of its boxes of a new level.
use Rattle.std.proofs.Common.{◌≡◌, ℕ, ◌<◌, refl, sym, ap, subst, ◌∙◌, inl, inr, arith, length}
use Rattle.std.proofs.lemmas.Bool.{and_parts, and_from, cases_eq, false≢true}
use Rattle.std.proofs.lemmas.Bool.Decides.{nat_tests}
use Rattle.std.proofs.lemmas.Option.{slice_get_within}
use Rattle.std.specs.Prelude.{pos, Bool, true, false, ◌&&◌, not, cond, nat_eq, List, Some, slice_get, ◌⊎◌}
use Rattle.std.specs.List.{All, flat_map}
use Rattle.samr_box.specs.declared.vector.IVec.{IVec}
use Rattle.samr_box.specs.Vector.{alike}
use Rattle.samr_box.specs.Corners.{Corners, Holds, holds, met}
use Rattle.samr_box.specs.Ratios.{coarse, coarsened}
use Rattle.samr_box.specs.Lists.{Member}
use Rattle.samr_box.proofs.CellSets.{Holds-test, holds-from, Holds-coarsened, met-cells}
use Rattle.samr_box.proofs.Members.{Member-append_left, Member-append_right, Member-from_append, Member-flat_map, Member-from_flat_map, All-from_members}
use Rattle.samr_stage.specs.declared.stage.Held.{Held}
use Rattle.samr_stage.specs.Row.{heard, column}
use Rattle.samr_level.specs.Refs.{Owned, Link, link, turned}
use Rattle.samr_level.specs.Levels.{IsCellIn, own}
use Rattle.samr_level.specs.Overlaps.{scale, near, true_overlaps, IsTrueOverlap}
use Rattle.samr_level.proofs.Overlapping.{Member-overlaps, Member-of_rank, zero_shift}
use Rattle.samr_data.specs.Values.{value_in}
use Rattle.samr_data.proofs.PlaceLaws.{same_test}
use Rattle.samr_ops.specs.declared.rules.Rules.{Rules}
use Rattle.samr_ops.specs.Rules.{refined_value}
use Rattle.samr_peers.specs.Peers.{peer_row}
use Rattle.samr_peers.proofs.PeerRows.{heard_in, heard_out}
use Rattle.samr_data.specs.declared.parcel.Parcel.{Parcel}
use Rattle.samr_values.specs.Patches.{has, child}
use Rattle.samr_values.specs.Parcels.{IsParcel, is_for, same_box, has_fine, has_coarse, is_told, is_told_under, Tell, Refinable, Tells}
use Rattle.samr_values.specs.Values.{Renewing, IsRenewing, new_value, old_ups, coarse_ups, downs}
use Rattle.samr_values.specs.ValuesRow.{leads_to, parcel_of, parcels, sends, hears, values_row}
use Rattle.samr_values.specs.Merging.{parcels_with}
use Rattle.samr_values.proofs.Written.{not_true}
use Rattle.samr_values.proofs.Under.{any_is, any_from, some_and, near_above, near_same}
use Rattle.samr_values.proofs.CoarsenRowLaws.{is_for_it, same_number}
use Rattle.samr_values.proofs.CoarsenStage.{own_from}
use Rattle.samr_values.proofs.Regions.{old_is_parcel, coarse_is_parcel, old_told, coarse_told}
use Rattle.samr_values.proofs.ValuesRowLaws.{row_is, sends_turn, coarse_turn, IsOld, IsCoarse, from_parcels, old_in, coarse_in}

module _ (w : Renewing) (t : IsRenewing w) where
  -- a cell of a rank's new box that the old level has is in a parcel for that box
  old_by : (r f : ℕ) (b : Owned) (x : IVec) → f < length w.rules → Member b w.news → b.owner ≡ r → Holds b.bx x → has w.olds x ≡ true
      → (e : Link) × (region : Corners) × Member e (sends w e.base.owner) × (e.head ≡ b) × Holds region x
      × Member (parcel_of e false f (w.values f) region) (parcels w e.base.owner r)
  old_by r f b x below mb owner hb old =
      let found = any_from (λ (a : Owned). holds a.bx x) w.olds old in
      let a = found.0 in
      let ha = Holds-test {b = a.bx} {x = x} found.2 in
      let e : Link = link a b (alike (pos 0)) in
      let n = scale w.frame w.width w.ratio w.ratio in
      let near_it = near_same w.frame w.width w.ratio a.bx b.bx x t.ratio t.width (t.olds.not_empty a found.1) (t.news.not_empty b mb) ha hb in
      let overlap : IsTrueOverlap n w.olds w.news e = record { is_base = found.1; is_head = mb; is_shift = zero_shift w.frame.periodic; is_near = near_it } in
      let me = Member-of_rank a.owner (true_overlaps n w.olds w.news) e (Member-overlaps n w.olds w.news e overlap) refl in
      let region = some_and (λ (d : Corners). Holds d x) (met a.bx b.bx) ((met-cells a.bx b.bx x).1 (ha, hb)) in
      let mine : nat_eq b.owner r ≡ true = grind (arith, nat_tests, owner) in
      let leads : leads_to r e ≡ true = and_from (nat_eq b.owner r) true mine refl in
      (e, region.0, Member-append_left e (old_ups w a.owner) (coarse_ups w a.owner) me, refl, region.2, old_in w a.owner r f e region.0 below me leads region.1)

  -- the coarse cell under a cell of a rank's new box is in a parcel for that box
  coarse_by : (r f : ℕ) (b : Owned) (x : IVec) → f < length w.rules → Member b w.news → b.owner ≡ r → Holds b.bx x
      → (e : Link) × (region : Corners) × Member e (sends w e.base.owner) × (e.head ≡ b) × Holds region (coarse x w.step)
      × Member (parcel_of e true f (w.coarse_values f) region) (parcels w e.base.owner r)
  coarse_by r f b x below mb owner hb =
      let c = coarse x w.step in
      let found = t.over x (b, mb, hb) in
      let a = found.0 in
      let ha = found.2 in
      let back : Link = link b a (alike (pos 0)) in
      let e : Link = turned back in
      let n = scale w.frame w.reach w.ratio w.below in
      let near_it : near n b.bx a.bx (alike (pos 0)) ≡ true =
      subst (λ (v : IVec). near (scale w.frame w.reach v w.below) b.bx a.bx (alike (pos 0)) ≡ true) t.product
      (near_above w.frame w.reach w.below w.step b.bx a.bx x t.below t.step t.reach (t.news.not_empty b mb) (t.coarser.not_empty a found.1) hb ha) in
      let overlap : IsTrueOverlap n w.news w.coarser back = record { is_base = mb; is_head = found.1; is_shift = zero_shift w.frame.periodic; is_near = near_it } in
      let down : Member back (downs w b.owner) =
      Member-of_rank b.owner (true_overlaps n w.news w.coarser) back (Member-overlaps n w.news w.coarser back overlap) refl in
      let me = ((coarse_turn w t).home b.owner back down).2 in
      let hc : Holds (coarsened b.bx w.step) c = (Holds-coarsened b.bx w.step (t.news.not_empty b mb) t.step c).1 (x, hb, refl) in
      let region = some_and (λ (d : Corners). Holds d c) (met a.bx (coarsened b.bx w.step)) ((met-cells a.bx (coarsened b.bx w.step) c).1 (ha, hc)) in
      let mine : nat_eq b.owner r ≡ true = grind (arith, nat_tests, owner) in
      let leads : leads_to r e ≡ true = and_from (nat_eq b.owner r) true mine refl in
      let there = Member-append_right e (old_ups w a.owner) (coarse_ups w a.owner) me in
      (e, region.0, there, refl, region.2, coarse_in w a.owner r f e region.0 below me leads region.1)

  module _ (r : ℕ) (within : r < w.ranks) (own_parcels : List Parcel) (held : List (Held (List Parcel))) (is : own_parcels ≡ parcels w r r)
      (are : held ≡ heard (column (values_row w) r) w.ranks) where
    -- what it has comes along edges, and what comes along edges to it is there
    heard_are : held ≡ heard (column (peer_row w.ranks (sends w) (parcels w)) r) w.ranks
    heard_are = are ∙ ap (λ row. heard (column row r) w.ranks) (row_is w)

    all_from : (q : Parcel) → Member q (parcels_with own_parcels held) → (sender : ℕ) × (IsOld w sender r q ⊎ IsCoarse w sender r q)
    all_from q m = elim (Member-from_append q own_parcels (flat_map (λ letter. letter.body) held) m) [
      | inl here ↦ (r, from_parcels w r r q (subst (λ (l : List Parcel). Member q l) is here))
      | inr there ↦
          let s = Member-from_flat_map (λ (letter : Held (List Parcel)). letter.body) q held there in
          let mine = subst (λ (l : List (Held (List Parcel))). Member s.0 l) heard_are s.1 in
          let out = heard_out w.ranks (sends w) (hears w) (parcels w) (sends_turn w t) r within s.0 mine in
          (s.0.sender, from_parcels w s.0.sender r q (subst (λ (l : List Parcel). Member q l) out.0 s.2))
    ]

    all_have : (e : Link) (q : Parcel) → Member e (sends w e.base.owner) → e.head.owner ≡ r → Member q (parcels w e.base.owner r)
        → Member q (parcels_with own_parcels held)
    all_have e q me owner m = elim (cases_eq e.base.owner r) [
      | inl here ↦
          Member-append_left q own_parcels (flat_map (λ letter. letter.body) held)
          (subst (λ (l : List Parcel). Member q l) (sym is) (subst (λ (k : ℕ). Member q (parcels w k r)) here m))
      | inr other ↦
          let turn = (sends_turn w t).forth e.base.owner e me in
          let mine : Member (turned e) (hears w r) = subst (λ (k : ℕ). Member (turned e) (hears w k)) owner turn.2 in
          let letter : Held (List Parcel) = record { sender = e.base.owner; body = parcels w e.base.owner r } in
          let there = heard_in w.ranks (sends w) (hears w) (parcels w) (sends_turn w t) r within (turned e) mine other in
          Member-append_right q own_parcels (flat_map (λ letter. letter.body) held)
          (Member-flat_map (λ (letter : Held (List Parcel)). letter.body) q letter held
          (subst (λ (l : List (Held (List Parcel))). Member letter l) (sym heard_are) there) m)
    ]

    pub all_parcels : All IsParcel (parcels_with own_parcels held)
    all_parcels =
        All-from_members IsParcel (parcels_with own_parcels held)
        (λ q m. let s = all_from q m in elim s.1 [ inl h ↦ old_is_parcel w t s.0 r q h | inr h ↦ coarse_is_parcel w t s.0 r q h ])

    -- which kind of parcel one is
    is_old : (q : Parcel) → Member q (parcels_with own_parcels held) → q.is_coarse ≡ false → (sender : ℕ) × IsOld w sender r q
    is_old q m kind =
        let s = all_from q m in
        elim s.1 [ inl h ↦ (s.0, h) | inr h ↦ absurd (false≢true (sym kind ∙ ap (λ (p : Parcel). p.is_coarse) h.is)) ]

    is_coarse_one : (q : Parcel) → Member q (parcels_with own_parcels held) → q.is_coarse ≡ true → (sender : ℕ) × IsCoarse w sender r q
    is_coarse_one q m kind =
        let s = all_from q m in
        elim s.1 [ inl h ↦ absurd (false≢true (sym (ap (λ (p : Parcel). p.is_coarse) h.is) ∙ kind)) | inr h ↦ (s.0, h) ]

    number_is : (f n : ℕ) (b : Corners) (q : Parcel) → is_for f b q ≡ true → q.field ≡ n → n ≡ f
    number_is f n b q test its = sym its ∙ same_number q.field f (and_parts (nat_eq q.field f) (same_box q.edge.head.bx b) test).0

    -- what it tells of the box's cells, and of the coarse ones under it
    own_told : (f : ℕ) (b : Corners) → Tell f b (parcels_with own_parcels held) (w.values f)
    own_told f b = λ q x m fine hx.
        let both = and_parts (not q.is_coarse) (is_for f b q) fine in
        let s = is_old q m (not_true q.is_coarse both.0) in
        let number = number_is f s.1.field b q both.1 (ap (λ (p : Parcel). p.field) s.1.is) in
        (old_told w t s.0 r q x s.1 hx).1 ∙ ap (λ (k : ℕ). w.values k x) number

    coarse_is : (f : ℕ) (b : Corners) (q : Parcel) (c : IVec) → Member q (parcels_with own_parcels held) → has_coarse f b q ≡ true → Holds q.region c
        → IsCellIn w.coarser c × (value_in q.region q.values c ≡ w.coarse_values f c)
    coarse_is f b q c m test hc =
        let both = and_parts q.is_coarse (is_for f b q) test in
        let s = is_coarse_one q m both.0 in
        let number = number_is f s.1.field b q both.1 (ap (λ (p : Parcel). p.field) s.1.is) in
        let told = coarse_told w t s.0 r q c s.1 hc in
        (told.0, told.1 ∙ ap (λ (k : ℕ). w.coarse_values k c) number)

    pub all_refinable : (f : ℕ) (q : Rules) (b : Owned) → slice_get w.rules f ≡ Some q → Member b (own r w.news)
        → Refinable f q b.bx (parcels_with own_parcels held)
    all_refinable f q b got mb = λ p c m test hc.
        let s = coarse_is f b.bx p c m test hc in
        subst (λ (v : ℕ). v < q.modulus) (sym s.1) (t.coarse_fits f q c got s.0)

    -- a cell of the box has a value under it, and one of its own where the old level has it
    told_under : (f : ℕ) (b : Owned) (x : IVec) → f < length w.rules → Member b w.news → b.owner ≡ r → Holds b.bx x
        → is_told_under f w.step b.bx (parcels_with own_parcels held) x ≡ true
    told_under f b x below mb owner hb =
        let c = coarse x w.step in
        let (e, region, me, head, hc, mq) = coarse_by r f b x below mb owner hb in
        let q : Parcel = parcel_of e true f (w.coarse_values f) region in
        let here = all_have e q me (ap (λ (b : Owned). b.owner) head ∙ owner) mq in
        any_is (λ q. has_coarse f b.bx q && holds q.region c) q (parcels_with own_parcels held) here
        (and_from (has_coarse f b.bx q) (holds region c) (is_for_it f e.head.bx b.bx (ap (λ (b : Owned). b.bx) head)) (holds-from {b = region} {x = c} hc))

    told_is : (f : ℕ) (b : Owned) (x : IVec) → f < length w.rules → Member b w.news → b.owner ≡ r → Holds b.bx x
        → is_told f b.bx (parcels_with own_parcels held) x ≡ has w.olds x
    told_is f b x below mb owner hb =
        let all = parcels_with own_parcels held in
        let has_it : Parcel → Bool = λ q. has_fine f b.bx q && holds q.region x in
        same_test (is_told f b.bx all x) (has w.olds x)
        (λ test.
        let q = any_from has_it all test in
        let both = and_parts (has_fine f b.bx q.0) (holds q.0.region x) q.2 in
        let fine = and_parts (not q.0.is_coarse) (is_for f b.bx q.0) both.0 in
        let s = is_old q.0 q.1 (not_true q.0.is_coarse fine.0) in
        (old_told w t s.0 r q.0 x s.1 (Holds-test {b = q.0.region} {x = x} both.1)).0)
        (λ test.
        let (e, region, me, head, hx, mq) = old_by r f b x below mb owner hb test in
        let q : Parcel = parcel_of e false f (w.values f) region in
        let here = all_have e q me (ap (λ (b : Owned). b.owner) head ∙ owner) mq in
        any_is has_it q all here
        (and_from (has_fine f b.bx q) (holds region x) (is_for_it f e.head.bx b.bx (ap (λ (b : Owned). b.bx) head)) (holds-from {b = region} {x = x} hx)))

    pub all_tell : (f : ℕ) (q : Rules) (b : Owned) → slice_get w.rules f ≡ Some q → Member b (own r w.news)
        → Tells f w.step q b.bx (parcels_with own_parcels held) (new_value w (f, q))
    unfolding new_value
    all_tell f q b got mb =
        let o = own_from r w.news b mb in
        let below = slice_get_within w.rules f q got in
        let under : IVec → ℕ = λ x. refined_value q (w.coarse_values f (coarse x w.step)) (child x w.step) in
        record {
          under_values = under;
          own_values = w.values f;
          under = λ p x m test hb hx.
              ap (λ (v : ℕ). refined_value q v (child x w.step)) (coarse_is f b.bx p (coarse x w.step) m test hx).1;
          own = own_told f b.bx;
          covered = λ x hb. told_under f b x below o.0 o.1 hb;
          is = λ x hb. ap (λ (v : Bool). cond v (w.values f x) (under x)) (told_is f b x below o.0 o.1 hb);
        }
