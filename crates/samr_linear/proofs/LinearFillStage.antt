-- The stage of a linear fill of a rank: its letters, and what it has once all have come.
use Rattle.std.proofs.Common.{◌≡◌, ◌≢◌, ◌⊎◌, ℕ, zero, suc, ◌<◌, refl, sym, ap, ◌∙◌, subst, inl, inr, arith, length, sum_by}
use Rattle.std.proofs.lemmas.Bool.{cases_eq, false≢true, eq-eqb, eqb-true}
use Rattle.std.proofs.lemmas.Cmp.{nat_cmp_total}
use Rattle.std.specs.Ordering.{nat_cmp}
use Rattle.std.specs.Prelude.{◌↔◌, Bool, true, false, cond, List, [], ◌∷◌, ◌++◌, map, filter, Option, Some, None, nat_eq, slice_get}
use Rattle.std.specs.List.{flat_map, filter_map, cons_option, enumerate_from, find}
use Rattle.std.specs.List.Sorted.{IsPermutation}
use Rattle.samr_box.specs.declared.vector.IVec.{IVec}
use Rattle.samr_box.specs.Corners.{Holds}
use Rattle.samr_box.specs.Lists.{Member}
use Rattle.samr_box.proofs.Ascending.{same_from_members}
use Rattle.samr_box.proofs.Members.{Member-append_left, Member-append_right, Member-from_append, Member-map, Member-from_map, Member-flat_map, Member-from_flat_map, Member-filter, Member-from_filter, Member-filter_map, Member-from_filter_map}
use Rattle.samr_stage.specs.declared.stage.Held.{Held}
use Rattle.samr_stage.specs.Row.{told, heard, column}
use Rattle.samr_level.specs.Refs.{Owned, Link, turned}
use Rattle.samr_level.specs.RefOrders.{in_order}
use Rattle.samr_level.specs.Levels.{own}
use Rattle.samr_level.specs.Overlaps.{scale, true_overlaps}
use Rattle.samr_level.proofs.RefLaws.{same_nat}
use Rattle.samr_level.proofs.Sorting.{Member-in_order, Member-from_in_order, sorted-in_order}
use Rattle.samr_level.proofs.Overlapping.{Member-overlaps, Member-from_overlaps, Member-of_rank}
use Rattle.samr_peers.specs.Peers.{other_owners, peer_row}
use Rattle.samr_peers.proofs.PeerRows.{Member-others, Member-from_others, others_sorted, letters_are, count_is, heard_in, heard_out}
use Rattle.samr_peers.proofs.PairTurns.{self_turns, pair_turns}
use Rattle.samr_data.specs.Grids.{Grid, value_at}
use Rattle.samr_ops.specs.declared.rules.Rules.{Rules}
use Rattle.samr_sched.specs.declared.plan.Request.{Request}
use Rattle.samr_sched.specs.declared.plan.FieldPlan.{FieldPlan}
use Rattle.samr_sched.specs.declared.plan.BoxPlan.{BoxPlan}
use Rattle.samr_sched.specs.declared.plan.Asked.{Asked}
use Rattle.samr_sched.specs.declared.plan.Plan.{Plan}
use Rattle.samr_sched.specs.Ask.{frame_of, coarse_frame, selves, ups, downs}
use Rattle.samr_sched.specs.Plans.{copies, box_plans, all_asked, requests, others, plan_of}
use Rattle.samr_data.specs.declared.parcel.Parcel.{Parcel}
use Rattle.samr_data.specs.ParcelOrder.{parcel_cmp}
use Rattle.samr_data.proofs.ParcelOrderLaws.{parcel_total, same_from_parcel_cmp}
use Rattle.samr_fill.specs.Fill.{Filling, IsFilling}
use Rattle.samr_fill.specs.FillParts.{HasValues}
use Rattle.samr_fill.specs.FillRow.{copied_along, sends, hears, asked_region}
use Rattle.samr_fill.specs.Sending.{for_some, then_some, parcel_of, is_box, all_copies, asked_by, asked_of_itself, united, AreByCorner, AllByCorner}
use Rattle.samr_fill.specs.Orders.{AreInOrder}
use Rattle.samr_fill.proofs.OrderLaws.{member_after, member_before}
use Rattle.samr_fill.proofs.Numbered.{some_same, none_some, get_member}
use Rattle.samr_fill.proofs.FillRowLaws.{request_total, same_from_request_cmp, from_requests}
use Rattle.samr_fill.proofs.FillStage.{edges_turn}
use Rattle.samr_fill.proofs.Truths.{own_box, in_own, width_at, ghost_at, same_by, copy_edge, copy_self, down_edge, region_in_head}
use Rattle.samr_fill.proofs.BoxSearch.{all_by_corner}
use Rattle.samr_fill.proofs.FieldTasks.{length_map, there_at}
use Rattle.samr_fill.proofs.SendingLaws.{copies_same}
use Rattle.samr_fill.proofs.Numbered.{slice_get_map}
use Rattle.std.proofs.lemmas.Int.{ints, clamps}
use Rattle.std.specs.Prelude.{pos, get_or}
use Rattle.std.specs.Ordering.{is_eq}
use Rattle.std.specs.Option.{option_map}
use Rattle.std.proofs.lemmas.Cmp.{eq_by_cmp_equiv}
use Rattle.samr_box.specs.Vector.{alike, AtMost}
use Rattle.samr_box.specs.Corners.{Corners, met, common, grown}
use Rattle.samr_box.specs.Orders.{corner_cmp}
use Rattle.samr_box.proofs.Totals.{corner_total, same_corners, same_from_corner_cmp}
use Rattle.samr_box.proofs.CellSets.{Holds-lo, Holds-hi}
use Rattle.samr_box.proofs.Vectors.{same_cell}
use Rattle.samr_nest.proofs.Subtracting.{met_some}
use Rattle.samr_data.specs.Grids.{over, grid_of}
use Rattle.samr_data.proofs.Patches.{has_its_values}
use Rattle.samr_data.proofs.Lists.{listed_same}
use Rattle.samr_box.specs.declared.space.Flags.{Flags}
use Rattle.samr_linear.specs.declared.linear.Linear.{Linear}
use Rattle.samr_linear.specs.Around.{one_around, answered_around}
use Rattle.samr_linear.specs.LinearFill.{LinearFilling, IsLinearFilling}
use Rattle.samr_linear.specs.LinearFillRow.{packed_for, linear_parcels, linear_row}
use Rattle.samr_linear.specs.LinearFillParts.{patches_below, HasPatches}
use Rattle.samr_linear.specs.LinearSending.{answer_of, answer_in, parcels_from, letters_from}
use Rattle.samr_linear.specs.Staging.{IsReady, HasLetters}
use Rattle.samr_linear.specs.FilledSoFar.{HasParcels, IsField}
use Rattle.samr_linear.proofs.LinearFillRowLaws.{from_linear}
use Rattle.samr_linear.proofs.Rings.{around_between}
use Rattle.samr_linear.proofs.Truths.{region_order}

-- two lists of owners are those of both lists of edges
united_is : (r : ℕ) (a b : List Link) → united (other_owners r a) (other_owners r b) ≡ other_owners r (a ++ b)
unfolding united
united_is r a b =
    same_from_members nat_cmp_total (in_order nat_cmp (other_owners r a ++ other_owners r b)) (other_owners r (a ++ b))
    (sorted-in_order nat_cmp_total (other_owners r a ++ other_owners r b)) (others_sorted r (a ++ b))
    (λ k m.
    elim (Member-from_append k (other_owners r a) (other_owners r b) (Member-from_in_order nat_cmp_total k (other_owners r a ++ other_owners r b) m)) [
      | inl x ↦ let f = Member-from_others r a k x in subst (λ (v : ℕ). Member v (other_owners r (a ++ b))) f.2 (Member-others r (a ++ b) f.0 (Member-append_left f.0 a b f.1) (λ e. f.3 (sym f.2 ∙ e)))
      | inr y ↦ let f = Member-from_others r b k y in subst (λ (v : ℕ). Member v (other_owners r (a ++ b))) f.2 (Member-others r (a ++ b) f.0 (Member-append_right f.0 a b f.1) (λ e. f.3 (sym f.2 ∙ e)))
    ])
    (λ k m.
    let f = Member-from_others r (a ++ b) k m in
    let other : f.0.head.owner ≢ r = λ e. f.3 (sym f.2 ∙ e) in
    Member-in_order nat_cmp_total same_nat k (other_owners r a ++ other_owners r b)
    (elim (Member-from_append f.0 a b f.1) [
      | inl x ↦ subst (λ (v : ℕ). Member v (other_owners r a ++ other_owners r b)) f.2 (Member-append_left f.0.head.owner (other_owners r a) (other_owners r b) (Member-others r a f.0 x other))
      | inr y ↦ subst (λ (v : ℕ). Member v (other_owners r a ++ other_owners r b)) f.2 (Member-append_right f.0.head.owner (other_owners r a) (other_owners r b) (Member-others r b f.0 y other))
    ]))

-- who asks, and what
find_asked : (ks : List ℕ) (body : ℕ → List Request) (to : ℕ) → Member to ks
    → find (λ (a : Asked). nat_eq a.rank to) (map (λ k. let a : Asked = record { rank = k; requests = body k } in a) ks) ≡ Some (record { rank = to; requests = body to })
find_asked [] body to m = absurd m
find_asked (k ∷ ks) body to m = by_case (nat_eq k to) refl m (λ later. find_asked ks body to later)
  where
    by_case : (t : Bool) → nat_eq k to ≡ t → Member to (k ∷ ks) → (Member to ks → find (λ (a : Asked). nat_eq a.rank to) (map (λ k. let a : Asked = record { rank = k; requests = body k } in a) ks) ≡ Some (record { rank = to; requests = body to }))
        → cond t (Some (record { rank = k; requests = body k })) (find (λ (a : Asked). nat_eq a.rank to) (map (λ k. let a : Asked = record { rank = k; requests = body k } in a) ks))
        ≡ Some (record { rank = to; requests = body to })
    by_case true e m rest = ap (λ (n : ℕ). let a : Asked = record { rank = n; requests = body n } in Some a) (eqb-true k to e)
    by_case false e (inl same) rest = absurd (false≢true (sym e ∙ eq-eqb k to (sym same)))
    by_case false e (inr later) rest = rest later

find_none : (ks : List ℕ) (body : ℕ → List Request) (to : ℕ) → (Member to ks → ⊥)
    → find (λ (a : Asked). nat_eq a.rank to) (map (λ k. let a : Asked = record { rank = k; requests = body k } in a) ks) ≡ None
find_none [] body to none = refl
find_none (k ∷ ks) body to none = by_case (nat_eq k to) refl (find_none ks body to (λ m. none (inr m)))
  where
    by_case : (t : Bool) → nat_eq k to ≡ t → find (λ (a : Asked). nat_eq a.rank to) (map (λ k. let a : Asked = record { rank = k; requests = body k } in a) ks) ≡ None
        → cond t (Some (record { rank = k; requests = body k })) (find (λ (a : Asked). nat_eq a.rank to) (map (λ k. let a : Asked = record { rank = k; requests = body k } in a) ks)) ≡ None
    by_case true e rest = absurd (none (inl (sym (eqb-true k to e))))
    by_case false e rest = rest

map_ranks : (ks : List ℕ) (body : ℕ → List Request) → map (λ (a : Asked). a.rank) (map (λ k. let a : Asked = record { rank = k; requests = body k } in a) ks) ≡ ks
map_ranks [] body = refl
map_ranks (k ∷ ks) body = ap (λ (l : List ℕ). k ∷ l) (map_ranks ks body)

no_members : {X : Type 0} (xs : List X) → ((x : X) → Member x xs → ⊥) → xs ≡ []
no_members [] none = refl
no_members (x ∷ xs) none = absurd (none x (inl refl))

map_same : {X Y : Type 0} (f g : X → Y) (xs : List X) → ((x : X) → Member x xs → f x ≡ g x) → map f xs ≡ map g xs
map_same f g [] each = refl
map_same {X} {Y} f g (x ∷ xs) each = ap (λ (y : Y). y ∷ map f xs) (each x (inl refl)) ∙ ap (λ (l : List Y). g x ∷ l) (map_same f g xs (λ y m. each y (inr m)))

module _ (w : Filling) (is : IsFilling w) (r : ℕ) where
  -- a rank that asks is among those
  asker : (to : ℕ) → to ≢ r → (q : Request) → Member q (requests w.schedule to r) → Member to (other_owners r (ups w.schedule r))
  asker to other q m =
      let s = w.schedule in
      let k = from_requests s to r q m in
      let base = own_box to s.level k.base k.own_base in
      let n = scale s.region.frame s.reach s.ratio s.below in
      let f = Member-from_overlaps n (k.base ∷ []) s.coarser k.edge k.its_edge in
      let start : k.edge.base ≡ k.base = only k.base k.edge.base f.is_base in
      let all = Member-overlaps n s.level s.coarser k.edge
      (record { is_base = subst (λ (o : Owned). Member o s.level) (sym start) base.0; is_head = f.is_head; is_shift = f.is_shift; is_near = f.is_near }) in
      let owner : k.edge.base.owner ≡ to = ap (λ (o : Owned). o.owner) start ∙ base.1 in
      let mine = Member-of_rank to (true_overlaps n s.level s.coarser) k.edge all owner in
      let turns = pair_turns s.region.frame s.reach s.ratio s.below s.level s.coarser s.ranks is.schedule.level.owners is.schedule.coarser.owners in
      let back = (turns.forth to k.edge mine).2 in
      let here : Member (turned k.edge) (ups s r) = subst (λ (v : ℕ). Member (turned k.edge) (ups s v)) k.its_head back in
      subst (λ (v : ℕ). Member v (other_owners r (ups s r))) owner (Member-others r (ups s r) (turned k.edge) here (λ e. other (sym owner ∙ e)))
    where
      only : (base b : Owned) → Member b (base ∷ []) → b ≡ base
      only base b (inl e) = e
      only base b (inr m) = absurd m

  asked_same : (to : ℕ) → to ≢ r → asked_by (others w.schedule r) to ≡ requests w.schedule to r
  unfolding asked_by others
  asked_same to other =
      let s = w.schedule in
      let ks = other_owners r (ups s r) in
      elim (is_member to ks) [
        | inl m ↦ ap (λ o. for_some o (λ (a : Asked). a.requests)) (find_asked ks (λ k. requests s k r) to m)
        | inr none ↦
            ap (λ o. for_some o (λ (a : Asked). a.requests)) (find_none ks (λ k. requests s k r) to none)
            ∙ sym (no_members (requests s to r) (λ q m. none (asker to other q m)))
      ]
    where
      is_member : (x : ℕ) (xs : List ℕ) → Member x xs ⊎ (Member x xs → ⊥)
      is_member x [] = inr (λ m. m)
      is_member x (y ∷ ys) =
          elim (cases_eq x y) [
            | inl e ↦ inl (inl e)
            | inr f ↦ elim (is_member x ys) [
              | inl m ↦ inl (inr m)
              | inr none ↦ inr (λ m. elim m [ inl e ↦ f e | inr later ↦ none later ])
            ]
          ]

  -- what a rank asks of itself
  own_asked : (q : Request) → Member q (asked_of_itself r (box_plans w.schedule r)) ↔ Member q (requests w.schedule r r)
  unfolding asked_of_itself requests
  own_asked q =
      let plans = box_plans w.schedule r in
      let test : Request → Bool = λ q. nat_eq q.edge.head.owner r in
      let by_field : FieldPlan → List Request = λ f. filter test f.asked in
      let by_box : BoxPlan → List Request = λ b. flat_map by_field b.fields in
      let asked_in : BoxPlan → List Request = λ b. flat_map (λ (f : FieldPlan). f.asked) b.fields in (
        λ m.
            let b = Member-from_flat_map by_box q plans m in
            let f = Member-from_flat_map by_field q b.0.fields b.2 in
            let t = Member-from_filter test q f.0.asked f.2 in
            Member-in_order request_total same_from_request_cmp q (filter test (all_asked plans))
            (Member-filter test q (all_asked plans) (Member-flat_map asked_in q b.0 plans b.1 (Member-flat_map (λ (f : FieldPlan). f.asked) q f.0 b.0.fields f.1 t.0)) t.1),
        λ m.
            let t = Member-from_filter test q (all_asked plans) (Member-from_in_order request_total q (filter test (all_asked plans)) m) in
            let b = Member-from_flat_map asked_in q plans t.0 in
            let f = Member-from_flat_map (λ (f : FieldPlan). f.asked) q b.0.fields b.2 in
            Member-flat_map by_box q b.0 plans b.1 (Member-flat_map by_field q f.0 b.0.fields f.1 (Member-filter test q f.0.asked f.2 t.1)),
      )

filter_map_all : {X Y : Type 0} (h : X → Option Y) (f : X → Y) (xs : List X) → ((x : X) → Member x xs → h x ≡ Some (f x)) → filter_map h xs ≡ map f xs
filter_map_all h f [] each = refl
filter_map_all {X} {Y} h f (x ∷ xs) each =
    ap (λ (o : Option Y). cons_option o (filter_map h xs)) (each x (inl refl))
    ∙ ap (λ (l : List Y). f x ∷ l) (filter_map_all h f xs (λ y m. each y (inr m)))

-- the first member that passes a test
found : {X : Type 0} (p : X → Bool) (x : X) (xs : List X) → Member x xs → p x ≡ true → (y : X) × (find p xs ≡ Some y) × (p y ≡ true) × Member y xs
found p x [] m t = absurd m
found {X} p x (y ∷ ys) m t = by_case (p y) refl (λ later. found p x ys later t)
  where
    earlier : (p y ≡ false) → Member x ys
    earlier f = elim m [
      | inl e ↦ absurd (false≢true (sym f ∙ ap p (sym e) ∙ t))
      | inr later ↦ later
    ]

    by_case : (b : Bool) → p y ≡ b → (Member x ys → (z : X) × (find p ys ≡ Some z) × (p z ≡ true) × Member z ys)
        → (z : X) × (cond b (Some y) (find p ys) ≡ Some z) × (p z ≡ true) × Member z (y ∷ ys)
    by_case true e rest = (y, refl, e, inl refl)
    by_case false e rest = let r = rest (earlier e) in (r.0, r.1, r.2, inr r.3)

met_part : (a c : Corners) → AtMost c.lo c.hi → Holds a c.lo → Holds a c.hi → met a c ≡ Some c
met_part a c order lo hi =
    let same : common a c ≡ c =
    same_corners
    (same_cell (omega (arith, ints, clamps, lo.low.k)) (omega (arith, ints, clamps, lo.low.j)) (omega (arith, ints, clamps, lo.low.i)))
    (same_cell (omega (arith, ints, clamps, hi.high.k)) (omega (arith, ints, clamps, hi.high.j)) (omega (arith, ints, clamps, hi.high.i))) in
    met_some a c c.lo lo (Holds-lo order) ∙ ap (λ (v : Corners). Some v) same

-- a region with cells about it lies in a box with more about it
grown_order : (c : Corners) (g : IVec) → AtMost c.lo c.hi → AtMost (alike (pos 0)) g → AtMost (grown c g).lo (grown c g).hi
grown_order c g o l = record { k = omega (arith, ints, o.k, l.k); j = omega (arith, ints, o.j, l.j); i = omega (arith, ints, o.i, l.i) }

grown_inside : (b c : Corners) (g o : IVec) → AtMost c.lo c.hi → AtMost (alike (pos 0)) o → AtMost o g → Holds b c.lo → Holds b c.hi → (x : IVec) → Holds (grown c o) x → Holds (grown b g) x
grown_inside b c g o order none wide lo hi x h = record {
  low = record {
    k = omega (arith, ints, wide.k, lo.low.k, h.low.k);
    j = omega (arith, ints, wide.j, lo.low.j, h.low.j);
    i = omega (arith, ints, wide.i, lo.low.i, h.low.i);
  };
  high = record {
    k = omega (arith, ints, wide.k, hi.high.k, h.high.k);
    j = omega (arith, ints, wide.j, hi.high.j, h.high.j);
    i = omega (arith, ints, wide.i, hi.high.i, h.high.i);
  };
}

-- the answer of a patch that has the level below with its ghost cells
module _ (w : LinearFilling) (is : IsLinearFilling w) where
  answer_of_grid : (q : Request) (head : Corners) → AtMost (one_around w.stencil.real) w.rules.width → AtMost (asked_region w.filling.schedule q).lo (asked_region w.filling.schedule q).hi
      → ((z : IVec) → Holds (asked_region w.filling.schedule q) z → Holds head z)
      → answer_of (coarse_frame w.filling.schedule) w.stencil.real q (grid_of head w.rules.width w.below) ≡ Some (answered_around w.filling w.stencil w.below q)
  answer_of_grid q head wide order inside =
      let d = coarse_frame w.filling.schedule in
      let real = w.stencil.real in
      let one = one_around real in
      let R = asked_region w.filling.schedule q in
      let p : Grid = grid_of head w.rules.width w.below in
      let none = (around_between real).low in
      let lo = inside R.lo (Holds-lo order) in
      let hi = inside R.hi (Holds-hi order) in
      let region = grown R one in
      let region_order : AtMost region.lo region.hi = grown_order R one order none in
      let all : (x : IVec) → Holds region x → Holds (grown head w.rules.width) x = grown_inside head R w.rules.width one order none wide lo hi in
      let make : Corners → Parcel = λ a. parcel_of (turned q.edge) true q.field p a in
      ap (λ o. then_some o (λ c. option_map make (met (over p) (grown c one)))) (met_part head R order lo hi)
      ∙ ap (option_map make) (met_part (grown head w.rules.width) region region_order (all region.lo (Holds-lo region_order)) (all region.hi (Holds-hi region_order)))
      ∙ ap (λ (vs : List ℕ). let v : Parcel = record { edge = turned q.edge; is_coarse = true; field = q.field; region = region; values = vs } in Some v)
      (listed_same region (value_at p) w.below region_order (λ x h. has_its_values head w.rules.width w.below x (all x h)))

  same_box : (b : Corners) (p : Grid) → is_box b p ≡ true → p.bx ≡ b
  same_box b p t = same_from_corner_cmp p.bx b (same_by (corner_cmp p.bx b) t)

  box_same : (b : Corners) (p : Grid) → p.bx ≡ b → is_box b p ≡ true
  box_same b p e = ap (λ (c : Corners). is_eq (corner_cmp c b)) e ∙ (eq_by_cmp_equiv corner_total).refl b

  answer_same : (from to : ℕ) (q : Request) → Member q (requests w.filling.schedule to from)
      → answer_in (coarse_frame w.filling.schedule) w.stencil.real q (patches_below w from) ≡ Some (answered_around w.filling w.stencil w.below q)
  answer_same from to q m =
      let s = w.filling.schedule in
      let k = from_requests s to from q m in
      let edge = down_edge s k.base k.edge k.its_edge in
      let edge_of : q.edge ≡ k.edge = ap (λ (v : Request). v.edge) k.is in
      let head = q.edge.head in
      let head_of : Member head s.coarser = subst (λ (e : Link). Member e.head s.coarser) (sym edge_of) edge.head in
      let owner : head.owner ≡ from = ap (λ (e : Link). e.head.owner) edge_of ∙ k.its_head in
      let make : Owned → Grid = λ b. grid_of b.bx w.rules.width w.below in
      let mine = Member-map make head (own from s.coarser) (in_own from s.coarser head head_of owner) in
      let first = found (λ (v : Grid). is_box head.bx v) (make head) (patches_below w from) mine (box_same head.bx (make head) refl) in
      let b = Member-from_map make first.0 (own from s.coarser) first.3 in
      let bx : b.0.bx ≡ head.bx = sym (ap (λ (v : Grid). v.bx) b.2) ∙ same_box head.bx first.0 first.2 in
      let grid : first.0 ≡ make head = b.2 ∙ ap (λ (c : Corners). grid_of c w.rules.width w.below) bx in
      ap (λ o. then_some o (λ v. answer_of (coarse_frame s) w.stencil.real q v)) (first.1 ∙ ap (λ (v : Grid). Some v) grid)
      ∙ answer_of_grid q head.bx (is.wide head head_of) (region_order w.filling is.is to from q k) (λ z h. region_in_head s to from q k z h)

  -- patches of the level below, in order
  has_below : (r : ℕ) → HasValues w.filling.coarse_values (own r w.filling.schedule.coarser) (patches_below w r ∷ [])
  has_below r =
      let boxes = own r w.filling.schedule.coarser in
      let make : Owned → Grid = λ b. grid_of b.bx w.rules.width w.below in
      record {
        patch = λ f place field p e at. has_patch f place field p e at;
        full = λ f field e. has_full f field e;
      }
    where
      wide : (b : Corners) (x : IVec) → Holds b x → Holds (grown b w.rules.width) x
      wide b x h =
          let low = (ghost_at w.filling is.is 0 w.rules (ap (λ (l : List Rules). slice_get l 0) is.one)).low in
          record {
            low = record { k = omega (arith, ints, low.k, h.low.k); j = omega (arith, ints, low.j, h.low.j); i = omega (arith, ints, low.i, h.low.i) };
            high = record { k = omega (arith, ints, low.k, h.high.k); j = omega (arith, ints, low.j, h.high.j); i = omega (arith, ints, low.i, h.high.i) };
          }

      there : (boxes : List Owned) (place : ℕ) (p : Grid) → slice_get (map (λ b. grid_of b.bx w.rules.width w.below) boxes) place ≡ Some p
          → (b : Owned) × (slice_get boxes place ≡ Some b) × (p ≡ grid_of b.bx w.rules.width w.below)
      there boxes place p e = by_case (slice_get boxes place) refl
        where
          by_case : (o : Option Owned) → slice_get boxes place ≡ o → (b : Owned) × (slice_get boxes place ≡ Some b) × (p ≡ grid_of b.bx w.rules.width w.below)
          by_case (Some b) at =
              (b, at, some_same (sym e ∙ slice_get_map (λ (b : Owned). grid_of b.bx w.rules.width w.below) boxes place ∙ ap (option_map (λ (b : Owned). grid_of b.bx w.rules.width w.below)) at))
          by_case None at =
              absurd (none_some (sym (ap (option_map (λ (b : Owned). grid_of b.bx w.rules.width w.below)) at) ∙ sym (slice_get_map (λ (b : Owned). grid_of b.bx w.rules.width w.below) boxes place) ∙ e))

      has_patch : (f place : ℕ) (field : List Grid) (p : Grid) → slice_get (patches_below w r ∷ []) f ≡ Some field → slice_get field place ≡ Some p
          → (b : Owned) × (slice_get (own r w.filling.schedule.coarser) place ≡ Some b) × (p.bx ≡ b.bx) × ((x : IVec) → Holds b.bx x → value_at p x ≡ w.filling.coarse_values f x)
      has_patch zero place field p e at =
          let t = there (own r w.filling.schedule.coarser) place p (ap (λ (l : List Grid). slice_get l place) (some_same e) ∙ at) in
          let mb = (own_box r w.filling.schedule.coarser t.0 (get_member (own r w.filling.schedule.coarser) place t.0 t.1)).0 in (
            t.0,
            t.1,
            ap (λ (v : Grid). v.bx) t.2,
            λ x h. ap (λ (v : Grid). value_at v x) t.2 ∙ has_its_values t.0.bx w.rules.width w.below x (wide t.0.bx x h) ∙ is.keeps x (t.0, mb, h),
          )
      has_patch (suc f) place field p e at = absurd (none_some e)

      has_full : (f : ℕ) (field : List Grid) → slice_get (patches_below w r ∷ []) f ≡ Some field → length field ≡ length (own r w.filling.schedule.coarser)
      has_full zero field e =
          ap (λ (l : List Grid). length l) (sym (some_same e)) ∙ length_map (λ (b : Owned). grid_of b.bx w.rules.width w.below) (own r w.filling.schedule.coarser)
      has_full (suc f) field e = absurd (none_some e)

  of_all : (l : List Grid) → AllByCorner (l ∷ []) → AreByCorner l
  unfolding AllByCorner
  of_all l h = h 0 l refl

  pub below_sorted : (r : ℕ) → AreByCorner (patches_below w r)
  below_sorted r = of_all (patches_below w r) (all_by_corner w.filling is.is r (patches_below w r ∷ []) (has_below r))

row_is : (w : LinearFilling) → linear_row w ≡ peer_row w.filling.schedule.ranks (sends w.filling) (linear_parcels w)
unfolding linear_row
row_is w = refl

module _ (w : LinearFilling) (is : IsLinearFilling w) (r : ℕ) where
  -- whoever has a parcel for the rank is heard
  hearing : (from : ℕ) (p : Parcel) → Member p (linear_parcels w from r) → (e : Link) × Member e (hears w.filling r) × (e.head.owner ≡ from)
  hearing from p m =
      let s = w.filling.schedule in
      elim (from_linear w from r p m) [
        | inl c ↦
            let e = c.edge in
            let edge = copy_edge s c.field.1 c.base e c.its_edge in
            let n = scale s.region.frame s.width s.ratio s.ratio in
            let base = own_box from s.level c.base c.own_base in
            let f = Member-from_overlaps n (c.base ∷ []) s.level e (copy_self s c.field.1 c.base e c.its_edge) in
            let all = Member-overlaps n s.level s.level e
            (record { is_base = subst (λ (o : Owned). Member o s.level) (sym edge.base) base.0; is_head = f.is_head; is_shift = f.is_shift; is_near = f.is_near }) in
            let owner : e.base.owner ≡ from = ap (λ (o : Owned). o.owner) edge.base ∙ base.1 in
            let there = Member-of_rank from (true_overlaps n s.level s.level) e all owner in
            let back = ((self_turns s.region.frame s.width s.ratio s.level s.ranks is.is.schedule.level.owners).forth from e there).2 in
            let here : Member (turned e) (selves s r) = subst (λ (v : ℕ). Member (turned e) (selves s v)) c.its_head back in
            (turned e, Member-append_left (turned e) (selves s r) (downs s r) here, owner)
        | inr a ↦
            let k = from_requests s r from a.request a.asked in
            let n = scale s.region.frame s.reach s.ratio s.below in
            let base = own_box r s.level k.base k.own_base in
            let edge = down_edge s k.base k.edge k.its_edge in
            let f = Member-from_overlaps n (k.base ∷ []) s.coarser k.edge k.its_edge in
            let all = Member-overlaps n s.level s.coarser k.edge
            (record { is_base = subst (λ (o : Owned). Member o s.level) (sym edge.base) base.0; is_head = f.is_head; is_shift = f.is_shift; is_near = f.is_near }) in
            let owner : k.edge.base.owner ≡ r = ap (λ (o : Owned). o.owner) edge.base ∙ base.1 in
            (k.edge, Member-append_right k.edge (selves s r) (downs s r) (Member-of_rank r (true_overlaps n s.level s.coarser) k.edge all owner), k.its_head)
      ]

  pub awaits : r < w.filling.schedule.ranks
      → length (other_owners r (hears w.filling r)) ≡ sum_by (λ (held : Held (List Parcel)). 1) (heard (column (linear_row w) r) w.filling.schedule.ranks)
  awaits within =
      count_is w.filling.schedule.ranks (sends w.filling) (hears w.filling) (linear_parcels w) (edges_turn w.filling is.is) r within
      ∙ ap (λ row. sum_by (λ (held : Held (List Parcel)). 1) (heard (column row r) w.filling.schedule.ranks)) (sym (row_is w))

  module _ (fields : List (List Grid)) (has : HasValues w.filling.values (own r w.filling.schedule.level) fields) (single : length fields ≡ length w.filling.rules)
      (widths : (f place : ℕ) (field : List Grid) (p : Grid) (g : IVec) → slice_get fields f ≡ Some field → slice_get field place ≡ Some p
      → slice_get w.filling.schedule.ghosts f ≡ Some g → p.width ≡ g) where
    abbrev copies_to : ℕ → List Parcel
    copies_to to =
        flat_map (λ b. flat_map (λ f. filter_map (λ e. copied_along w.filling f.0 f.1 e) (filter (λ e. nat_eq e.head.owner to) (copies w.filling.schedule f.1 b)))
        (enumerate_from 0 w.filling.schedule.ghosts)) (own r w.filling.schedule.level)

    abbrev answer : Request → Option Parcel
    answer q = answer_in (coarse_frame w.filling.schedule) w.stencil.real q (patches_below w r)

    parcels_same : (to : ℕ) → parcels_from (plan_of w.filling.schedule r) w.stencil.real fields (patches_below w r) to (requests w.filling.schedule to r) ≡ packed_for w r to
    unfolding parcels_from
    parcels_same to =
        let s = w.filling.schedule in
        let a = copies_same w.filling is.is r to fields has single widths (box_plans s r) refl in
        let b = filter_map_all answer (λ q. answered_around w.filling w.stencil w.below q) (requests s to r) (λ q m. answer_same w is r to q m) in
        ap (λ (l : List Parcel). l ++ filter_map answer (requests s to r)) a ∙ ap (λ (l : List Parcel). copies_to to ++ l) b

    in_order_same : (to : ℕ) → in_order parcel_cmp (parcels_from (plan_of w.filling.schedule r) w.stencil.real fields (patches_below w r) to (requests w.filling.schedule to r)) ≡ linear_parcels w r to
    unfolding linear_parcels
    in_order_same to = ap (in_order parcel_cmp) (parcels_same to)

    pub letters_same : r < w.filling.schedule.ranks
        → letters_from (plan_of w.filling.schedule r) w.stencil.real fields (patches_below w r) (united (other_owners r (selves w.filling.schedule r)) (map (λ a. a.rank) (others w.filling.schedule r)))
        ≡ told (linear_row w r) w.filling.schedule.ranks
    unfolding letters_from others
    letters_same within =
        let s = w.filling.schedule in
        let plan = plan_of s r in
        let make : ℕ → ℕ × List Parcel = λ to. (to, in_order parcel_cmp (parcels_from plan w.stencil.real fields (patches_below w r) to (asked_by (others s r) to))) in
        ap (λ (l : List ℕ). map make (united (other_owners r (selves s r)) l)) (map_ranks (other_owners r (ups s r)) (λ k. requests s k r))
        ∙ ap (map make) (united_is r (selves s r) (ups s r))
        ∙ map_same make (λ to. (to, linear_parcels w r to)) (other_owners r (sends w.filling r))
        (λ to m.
        let f = Member-from_others r (sends w.filling r) to m in
        ap (λ (l : List Request). (to, in_order parcel_cmp (parcels_from plan w.stencil.real fields (patches_below w r) to l))) (asked_same w.filling is.is r to f.3) ∙ ap (λ (l : List Parcel). (to, l)) (in_order_same to))
        ∙ sym (letters_are s.ranks (sends w.filling) (hears w.filling) (linear_parcels w) (edges_turn w.filling is.is) r within)
        ∙ ap (λ row. told (row r) s.ranks) (sym (row_is w))

    own_packed : (p : Parcel) → Member p (parcels_from (plan_of w.filling.schedule r) w.stencil.real fields (patches_below w r) r (asked_of_itself r (box_plans w.filling.schedule r))) ↔ Member p (packed_for w r r)
    unfolding parcels_from
    own_packed p =
        let s = w.filling.schedule in
        let asks = asked_of_itself r (box_plans s r) in
        let around : Request → Parcel = λ q. answered_around w.filling w.stencil w.below q in
        let here = all_copies (frame_of s) r fields (box_plans s r) in
        let there = copies_to r in
        let same : here ≡ there = copies_same w.filling is.is r r fields has single widths (box_plans s r) refl in (
          λ m. elim (Member-from_append p here (filter_map answer asks) m) [
            | inl x ↦ Member-append_left p there (map around (requests s r r)) (subst (λ (l : List Parcel). Member p l) same x)
            | inr y ↦
                let q = Member-from_filter_map answer p asks y in
                let mq = (own_asked w.filling is.is r q.0).0 q.1 in
                let e : p ≡ around q.0 = some_same (sym q.2 ∙ answer_same w is r r q.0 mq) in
                Member-append_right p there (map around (requests s r r))
                (subst (λ (v : Parcel). Member v (map around (requests s r r))) (sym e) (Member-map around q.0 (requests s r r) mq))
          ],
          λ m. elim (Member-from_append p there (map around (requests s r r)) m) [
            | inl x ↦ Member-append_left p here (filter_map answer asks) (subst (λ (l : List Parcel). Member p l) (sym same) x)
            | inr y ↦
                let q = Member-from_map around p (requests s r r) y in
                Member-append_right p here (filter_map answer asks)
                (Member-filter_map answer p q.0 asks ((own_asked w.filling is.is r q.0).1 q.1) (answer_same w is r r q.0 q.1 ∙ ap (λ v. Some v) (sym q.2)))
          ],
        )

    pub own_parcels : (p : Parcel) → Member p (parcels_from (plan_of w.filling.schedule r) w.stencil.real fields (patches_below w r) r (asked_of_itself r (box_plans w.filling.schedule r))) ↔ Member p (linear_parcels w r r)
    unfolding linear_parcels
    own_parcels p = (
      λ m. Member-in_order parcel_total same_from_parcel_cmp p (packed_for w r r) ((own_packed p).0 m),
      λ m. (own_packed p).1 (Member-from_in_order parcel_total p (packed_for w r r) m),
    )

-- once all parcels have come
module _ (plan : Plan) (fields : List (List Grid)) (rules : Rules) (stencil : Linear) (mine : List Parcel) (senders : List ℕ) (w : LinearFilling) (r : ℕ)
    (h : IsReady plan fields rules stencil mine senders w r) where
  pub has_parcels : (held : List (Held (List Parcel))) → held ≡ heard (column (linear_row w) r) w.filling.schedule.ranks → (all : List Parcel)
      → all ≡ mine ++ flat_map (λ letter. letter.body) held → (sorted : List Parcel) → IsPermutation all sorted → AreInOrder sorted → HasParcels plan sorted rules stencil w r
  has_parcels held are all is sorted same order =
      let ranks = w.filling.schedule.ranks in
      let turns = edges_turn w.filling h.is.is in
      let body : Held (List Parcel) → List Parcel = λ letter. letter.body in
      let come_all = are ∙ ap (λ row. heard (column row r) ranks) (row_is w) in
      record {
        is = h.is;
        within = h.within;
        same_plan = h.same_plan;
        same_rules = h.same_rules;
        same_stencil = h.same_stencil;
        known = λ p m.
            elim (Member-from_append p mine (flat_map body held) (subst (λ (l : List Parcel). Member p l) is (member_before all sorted same p m))) [
              | inl x ↦ (r, (h.own_parcels p).0 x)
              | inr y ↦
                  let letter = Member-from_flat_map body p held y in
                  let out = heard_out ranks (sends w.filling) (hears w.filling) (linear_parcels w) turns r h.within letter.0 (subst (λ (l : List (Held (List Parcel))). Member letter.0 l) come_all letter.1) in
                  (letter.0.sender, subst (λ (l : List Parcel). Member p l) out.0 letter.2)
            ];
        come = λ from p below m.
            member_after all sorted same p
            (subst (λ (l : List Parcel). Member p l) (sym is)
            (elim (cases_eq from r) [
              | inl e ↦ Member-append_left p mine (flat_map body held) ((h.own_parcels p).1 (subst (λ (k : ℕ). Member p (linear_parcels w k r)) e m))
              | inr other ↦
                  let e = hearing w h.is r from p m in
                  let letter : Held (List Parcel) = record { sender = e.0.head.owner; body = linear_parcels w e.0.head.owner r } in
                  let there = heard_in ranks (sends w.filling) (hears w.filling) (linear_parcels w) turns r h.within e.0 e.1 (λ same. other (sym e.2 ∙ same)) in
                  Member-append_right p mine (flat_map body held)
                  (Member-flat_map body p letter held (subst (λ (l : List (Held (List Parcel))). Member letter l) (sym come_all) there)
                  (subst (λ (k : ℕ). Member p (linear_parcels w k r)) (sym e.2) m))
            ]));
        ordered = order;
      }

  pub one_there : (patches : List Grid) → patches ≡ get_or fields 0 patches → slice_get fields 0 ≡ Some patches
  one_there patches at = there_at fields 0 patches (let n = h.one in omega (arith, n)) at

  pub is_field : (all : List Parcel) (patches : List Grid) → HasParcels plan all rules stencil w r → slice_get fields 0 ≡ Some patches → IsField plan all rules stencil patches w r
  is_field all patches has there = record {
    has = has;
    full = h.same_values.full 0 patches there;
    patch = λ place p b at bb.
        let facts = h.same_values.patch 0 place patches p there at in
        let same : facts.0 ≡ b = some_same (sym facts.1 ∙ bb) in
        record {
          same_box = facts.2 ∙ ap (λ (o : Owned). o.bx) same;
          same_width = h.widths place patches p there at ∙ ap (λ (v : Rules). v.width) (sym h.same_rules);
          values = λ x q. facts.3 x (subst (λ (o : Owned). Holds o.bx x) (sym same) q);
        };
  }

-- what it has from the start
one_width : (w : LinearFilling) → IsLinearFilling w → (patches : List Grid) → ((place : ℕ) (p : Grid) → slice_get patches place ≡ Some p → p.width ≡ w.rules.width)
    → (f place : ℕ) (field : List Grid) (p : Grid) (g : IVec) → slice_get (patches ∷ []) f ≡ Some field → slice_get field place ≡ Some p
    → slice_get w.filling.schedule.ghosts f ≡ Some g → p.width ≡ g
one_width w is patches each zero place field p g e at there =
    each place p (ap (λ (l : List Grid). slice_get l place) (some_same e) ∙ at)
    ∙ some_same (sym (width_at w.filling is.is 0 w.rules (ap (λ (l : List Rules). slice_get l 0) is.one)) ∙ there)
one_width w is patches each (suc f) place field p g e at there = absurd (none_some e)

pub has_letters : (rank ranks : ℕ) (plan : Plan) (patches coarser : List Grid) (rules : Rules) (stencil : Linear) (w : LinearFilling) (r : ℕ) → HasPatches rank ranks plan patches coarser rules stencil w r
    → (copy : Plan) → copy ≡ plan → (fields : List (List Grid)) → fields ≡ patches ∷ [] → (real : Flags) → real ≡ stencil.real → (letters : List (ℕ × List Parcel)) (mine : List Parcel) (senders : List ℕ)
    → letters ≡ letters_from plan real fields coarser (united plan.near (map (λ a. a.rank) plan.others)) → mine ≡ parcels_from plan real fields coarser rank (asked_of_itself rank plan.boxes)
    → senders ≡ united plan.near plan.under → HasLetters copy fields rules stencil letters mine senders w r
has_letters rank ranks plan patches coarser rules stencil w r h copy same fields fields_are real real_is letters mine senders letters_are mine_are senders_are =
    let s = w.filling.schedule in
    let p = plan_of s r in
    let one = patches ∷ [] in
    let single : length one ≡ length w.filling.rules = ap (λ (l : List Rules). length l) (sym h.is.one) in
    let widths = one_width w h.is patches h.widths in
    let axes : real ≡ w.stencil.real = real_is ∙ ap (λ (t : Linear). t.real) h.same_stencil in
    let mine_is : mine ≡ parcels_from p w.stencil.real one (patches_below w r) r (asked_of_itself r (box_plans s r)) =
    mine_are
    ∙ ap (λ (q : Plan). parcels_from q real fields coarser rank (asked_of_itself rank q.boxes)) h.same_plan
    ∙ ap (λ (k : ℕ). parcels_from p real fields coarser k (asked_of_itself k (box_plans s r))) h.same_rank
    ∙ ap (λ (a : Flags). parcels_from p a fields coarser r (asked_of_itself r (box_plans s r))) axes
    ∙ ap (λ (l : List (List Grid)). parcels_from p w.stencil.real l coarser r (asked_of_itself r (box_plans s r))) fields_are
    ∙ ap (λ (l : List Grid). parcels_from p w.stencil.real one l r (asked_of_itself r (box_plans s r))) h.same_coarser in
    let own_law = own_parcels w h.is r one h.same_values single widths in
    record {
      ready = record {
        is = h.is;
        within = h.within;
        same_plan = same ∙ h.same_plan;
        same_rules = h.same_rules;
        same_stencil = h.same_stencil;
        same_values = subst (λ (l : List (List Grid)). HasValues w.filling.values (own r s.level) l) (sym fields_are) h.same_values;
        one = ap (λ (l : List (List Grid)). length l) fields_are;
        widths = λ place field q e at.
            h.widths place q (ap (λ (l : List Grid). slice_get l place) (some_same (ap (λ (l : List (List Grid)). slice_get l 0) (sym fields_are) ∙ e)) ∙ at);
        own_parcels = λ q. (
          λ m. (own_law q).0 (subst (λ (l : List Parcel). Member q l) mine_is m),
          λ m. subst (λ (l : List Parcel). Member q l) (sym mine_is) ((own_law q).1 m),
        );
        same_senders = senders_are ∙ ap (λ (q : Plan). united q.near q.under) h.same_plan ∙ united_is r (selves s r) (downs s r);
      };
      same_letters =
          letters_are
          ∙ ap (λ (q : Plan). letters_from q real fields coarser (united q.near (map (λ a. a.rank) q.others))) h.same_plan
          ∙ ap (λ (a : Flags). letters_from p a fields coarser (united p.near (map (λ a. a.rank) p.others))) axes
          ∙ ap (λ (l : List (List Grid)). letters_from p w.stencil.real l coarser (united p.near (map (λ a. a.rank) p.others))) fields_are
          ∙ ap (λ (l : List Grid). letters_from p w.stencil.real one l (united p.near (map (λ a. a.rank) p.others))) h.same_coarser
          ∙ letters_same w h.is r one h.same_values single widths h.within;
    }

pub ready_field : (plan : Plan) (fields : List (List Grid)) (rules : Rules) (stencil : Linear) (mine : List Parcel) (senders : List ℕ) (w : LinearFilling) (r : ℕ)
    → IsReady plan fields rules stencil mine senders w r
    → (held : List (Held (List Parcel))) → held ≡ heard (column (linear_row w) r) w.filling.schedule.ranks → (all : List Parcel) → all ≡ mine ++ flat_map (λ letter. letter.body) held
    → (sorted : List Parcel) → IsPermutation all sorted → AreInOrder sorted → (l : List Parcel) → l ≡ sorted → (those : List (List Grid)) → those ≡ fields
    → (patches : List Grid) → patches ≡ get_or those 0 patches → (slice : List Grid) → slice ≡ patches → IsField plan l rules stencil slice w r
ready_field plan fields rules stencil mine senders w r h held are all is sorted same order l at those those_are patches first slice e =
    let there = one_there plan fields rules stencil mine senders w r h patches (first ∙ ap (λ (fs : List (List Grid)). get_or fs 0 patches) those_are) in
    subst (λ (p : List Grid). IsField plan l rules stencil p w r) (sym e)
    (is_field plan fields rules stencil mine senders w r h l patches
    (subst (λ (ps : List Parcel). HasParcels plan ps rules stencil w r) (sym at) (has_parcels plan fields rules stencil mine senders w r h held are all is sorted same order)) there)
