-- Which parcels there are.
use Rattle.std.proofs.Common.{◌≡◌, ◌⊎◌, ℕ, refl, sym, ap, ◌∙◌, subst, inl, inr}
use Rattle.std.proofs.lemmas.Cmp.{nat_cmp_total, on_total, then_total}
use Rattle.std.specs.Cmp.{IsTotalOrder}
use Rattle.std.specs.Ordering.{nat_cmp, ordering_then}
use Rattle.std.specs.declared.cmp.Ordering.TheVariants.{Equal}
use Rattle.std.specs.Prelude.{Bool, true, false, ◌++◌, List, map, filter, Option, Some, None, nat_eq}
use Rattle.std.specs.List.{flat_map, filter_map, enumerate_from}
use Rattle.std.specs.Option.{option_map}
use Rattle.std.proofs.lemmas.Bool.{eqb-true, eq-eqb}
use Rattle.samr_box.specs.declared.vector.IVec.{IVec}
use Rattle.samr_box.specs.Corners.{Corners, met}
use Rattle.samr_box.specs.Orders.{corner_cmp}
use Rattle.samr_box.specs.Ratios.{coarsened}
use Rattle.samr_box.specs.Space.{image}
use Rattle.samr_box.specs.Lists.{Member}
use Rattle.samr_box.proofs.Members.{Member-append_left, Member-append_right, Member-from_append, Member-map, Member-from_map, Member-filter, Member-from_filter, Member-flat_map, Member-from_flat_map, Member-filter_map, Member-from_filter_map}
use Rattle.samr_box.proofs.Totals.{corner_total, both, same_from_corner_cmp}
use Rattle.samr_level.specs.Refs.{Owned, Link}
use Rattle.samr_level.specs.RefOrders.{edge_cmp}
use Rattle.samr_level.specs.Levels.{own}
use Rattle.samr_level.proofs.RefLaws.{edge_total, same_nat, same_from_edge_cmp}
use Rattle.samr_level.proofs.Sorting.{Member-in_order, Member-from_in_order}
use Rattle.samr_sched.specs.declared.plan.Request.{Request}
use Rattle.samr_sched.specs.declared.plan.BoxPlan.{BoxPlan}
use Rattle.samr_sched.specs.declared.plan.FieldPlan.{FieldPlan}
use Rattle.samr_sched.specs.Ask.{Scheduling, coarse_frame, downs_of}
use Rattle.samr_sched.specs.Plans.{request_cmp, copies, rest, request, asked_along, asked, field_plan, box_plan, box_plans, all_asked, requests}
use Rattle.samr_data.specs.declared.parcel.Parcel.{Parcel}
use Rattle.samr_data.proofs.ParcelOrderLaws.{parcel_total, same_from_parcel_cmp}
use Rattle.samr_fill.specs.Fill.{Filling}
use Rattle.samr_fill.specs.FillRow.{copied_along, answered, packed_for, parcels}

-- requests are in a total order
pub request_total : IsTotalOrder request_cmp
request_total =
    then_total (on_total (λ (q : Request). q.edge) edge_total)
    (then_total (on_total (λ (q : Request). q.field) nat_cmp_total) (on_total (λ (q : Request). q.bx) corner_total))

same_request : {p q : Request} → p.edge ≡ q.edge → p.field ≡ q.field → p.bx ≡ q.bx → p ≡ q
same_request {p} {q} edge field bx =
    ap (λ (e : Link). let r : Request = record { edge = e; field = p.field; bx = p.bx } in r) edge
    ∙ ap (λ (f : ℕ). let r : Request = record { edge = q.edge; field = f; bx = p.bx } in r) field
    ∙ ap (λ (b : Corners). let r : Request = record { edge = q.edge; field = q.field; bx = b } in r) bx

pub same_from_request_cmp : (p q : Request) → request_cmp p q ≡ Equal → p ≡ q
same_from_request_cmp p q e =
    let r = both (edge_cmp p.edge q.edge) (ordering_then (nat_cmp p.field q.field) (corner_cmp p.bx q.bx)) e in
    let t = both (nat_cmp p.field q.field) (corner_cmp p.bx q.bx) r.1 in
    same_request (same_from_edge_cmp p.edge q.edge r.0) (same_nat p.field q.field t.0) (same_from_corner_cmp p.bx q.bx t.1)

-- a request of a box, a field, an edge and a piece of the rest
pub record IsRequested (s : Scheduling) (from to : ℕ) (q : Request) : Type 0 where
  pub base : Owned
  pub field : ℕ × IVec
  pub edge : Link
  pub piece : Corners
  pub region : Corners
  pub own_base : Member base (own from s.level)
  pub its_field : Member field (enumerate_from 0 s.ghosts)
  pub its_edge : Member edge (downs_of s base)
  pub its_head : edge.head.owner ≡ to
  pub its_piece : Member piece (rest s field.1 base)
  pub its_region : met (coarsened piece s.step) (image (coarse_frame s) edge.head.bx edge.shift) ≡ Some region
  pub is : q ≡ request edge field.0 region

module _ (s : Scheduling) (from to : ℕ) where
  abbrev is_to : Request → Bool
  is_to q = nat_eq q.edge.head.owner to

  abbrev by_box : BoxPlan → List Request
  by_box p = flat_map (λ f. f.asked) p.fields

  abbrev region_of : Link → Corners → Option Corners
  region_of e p = met (coarsened p s.step) (image (coarse_frame s) e.head.bx e.shift)

  abbrev piece_asks : ℕ → Link → Corners → Option Request
  piece_asks n e p = option_map (λ c. request e n c) (region_of e p)

  some_region : (n : ℕ) (e : Link) (o : Option Corners) (q : Request) → option_map (λ c. request e n c) o ≡ Some q → (c : Corners) × (o ≡ Some c) × (q ≡ request e n c)
  some_region n e (Some c) q is = (c, refl, cc)
  some_region n e None q is = cc

  pub from_requests : (q : Request) → Member q (requests s from to) → IsRequested s from to q
  unfolding requests box_plans asked asked_along
  from_requests q m =
      let plans = map (λ b. box_plan s b) (own from s.level) in
      let all = all_asked plans in
      let a = Member-from_filter is_to q all (Member-from_in_order request_total q (filter is_to all) m) in
      let b = Member-from_flat_map by_box q plans a.0 in
      let c = Member-from_map (λ b. box_plan s b) b.0 (own from s.level) b.1 in
      let in_box : Member q (by_box (box_plan s c.0)) = subst (λ (p : BoxPlan). Member q (by_box p)) c.2 b.2 in
      let fields = map (λ f. field_plan s c.0 f) (enumerate_from 0 s.ghosts) in
      let d = Member-from_flat_map (λ (f : FieldPlan). f.asked) q fields in_box in
      let f = Member-from_map (λ f. field_plan s c.0 f) d.0 (enumerate_from 0 s.ghosts) d.1 in
      let in_field : Member q (asked s f.0.0 f.0.1 c.0) = subst (λ (p : FieldPlan). Member q p.asked) f.2 d.2 in
      let along : Link → List Request = λ e. filter_map (piece_asks f.0.0 e) (rest s f.0.1 c.0) in
      let g = Member-from_flat_map along q (downs_of s c.0) (Member-from_in_order request_total q (flat_map along (downs_of s c.0)) in_field) in
      let p = Member-from_filter_map (piece_asks f.0.0 g.0) q (rest s f.0.1 c.0) g.2 in
      let r = some_region f.0.0 g.0 (region_of g.0 p.0) q p.2 in
      record {
        base = c.0;
        field = f.0;
        edge = g.0;
        piece = p.0;
        region = r.0;
        own_base = c.1;
        its_field = f.1;
        its_edge = g.1;
        its_head = eqb-true g.0.head.owner to (subst (λ (v : Request). nat_eq v.edge.head.owner to ≡ true) r.2 a.1);
        its_piece = p.1;
        its_region = r.1;
        is = r.2;
      }

  pub in_requests : (base : Owned) (field : ℕ × IVec) (edge : Link) (piece region : Corners) → Member base (own from s.level) → Member field (enumerate_from 0 s.ghosts)
      → Member edge (downs_of s base) → edge.head.owner ≡ to → Member piece (rest s field.1 base)
      → met (coarsened piece s.step) (image (coarse_frame s) edge.head.bx edge.shift) ≡ Some region
      → Member (request edge field.0 region) (requests s from to)
  unfolding requests box_plans asked asked_along
  in_requests base field edge piece region mb mf me head mp is =
      let plans = map (λ b. box_plan s b) (own from s.level) in
      let all = all_asked plans in
      let q = request edge field.0 region in
      let along : Link → List Request = λ e. filter_map (piece_asks field.0 e) (rest s field.1 base) in
      let one : Member q (along edge) = Member-filter_map (piece_asks field.0 edge) q piece (rest s field.1 base) mp (ap (option_map (λ c. request edge field.0 c)) is) in
      let in_field : Member q (asked s field.0 field.1 base) =
      Member-in_order request_total same_from_request_cmp q (flat_map along (downs_of s base)) (Member-flat_map along q edge (downs_of s base) me one) in
      let fields = map (λ f. field_plan s base f) (enumerate_from 0 s.ghosts) in
      let in_box : Member q (by_box (box_plan s base)) =
      Member-flat_map (λ (f : FieldPlan). f.asked) q (field_plan s base field) fields (Member-map (λ f. field_plan s base f) field (enumerate_from 0 s.ghosts) mf) in_field in
      let in_all : Member q all = Member-flat_map by_box q (box_plan s base) plans (Member-map (λ b. box_plan s b) base (own from s.level) mb) in_box in
      Member-in_order request_total same_from_request_cmp q (filter is_to all)
      (Member-filter is_to q all in_all (eq-eqb edge.head.owner to head))

-- a parcel of copied values
pub record IsCopied (w : Filling) (from to : ℕ) (p : Parcel) : Type 0 where
  pub base : Owned
  pub field : ℕ × IVec
  pub edge : Link
  pub own_base : Member base (own from w.schedule.level)
  pub its_field : Member field (enumerate_from 0 w.schedule.ghosts)
  pub its_edge : Member edge (copies w.schedule field.1 base)
  pub its_head : edge.head.owner ≡ to
  pub is : copied_along w field.0 field.1 edge ≡ Some p

-- a parcel that answers a request
pub record IsAnswer (w : Filling) (from to : ℕ) (p : Parcel) : Type 0 where
  pub request : Request
  pub asked : Member request (requests w.schedule to from)
  pub is : p ≡ answered w request

module _ (w : Filling) (from to : ℕ) where
  abbrev leads : Link → Bool
  leads e = nat_eq e.head.owner to

  abbrev by_field : Owned → ℕ × IVec → List Parcel
  by_field b f = filter_map (λ e. copied_along w f.0 f.1 e) (filter leads (copies w.schedule f.1 b))

  abbrev of_box : Owned → List Parcel
  of_box b = flat_map (by_field b) (enumerate_from 0 w.schedule.ghosts)

  pub from_parcels : (p : Parcel) → Member p (parcels w from to) → IsCopied w from to p ⊎ IsAnswer w from to p
  unfolding parcels
  from_parcels p m =
      let all = flat_map of_box (own from w.schedule.level) in
      let answers = map (λ q. answered w q) (requests w.schedule to from) in
      elim (Member-from_append p all answers (Member-from_in_order parcel_total p (packed_for w from to) m)) [
        | inl here ↦
            let b = Member-from_flat_map of_box p (own from w.schedule.level) here in
            let f = Member-from_flat_map (by_field b.0) p (enumerate_from 0 w.schedule.ghosts) b.2 in
            let e = Member-from_filter_map (λ e. copied_along w f.0.0 f.0.1 e) p (filter leads (copies w.schedule f.0.1 b.0)) f.2 in
            let g = Member-from_filter leads e.0 (copies w.schedule f.0.1 b.0) e.1 in
            inl (record {
              base = b.0;
              field = f.0;
              edge = e.0;
              own_base = b.1;
              its_field = f.1;
              its_edge = g.0;
              its_head = eqb-true e.0.head.owner to g.1;
              is = e.2;
            })
        | inr there ↦
            let q = Member-from_map (λ q. answered w q) p (requests w.schedule to from) there in
            inr (record { request = q.0; asked = q.1; is = q.2 })
      ]

  pub in_copied : (p : Parcel) (base : Owned) (field : ℕ × IVec) (edge : Link) → Member base (own from w.schedule.level) → Member field (enumerate_from 0 w.schedule.ghosts)
      → Member edge (copies w.schedule field.1 base) → edge.head.owner ≡ to → copied_along w field.0 field.1 edge ≡ Some p → Member p (parcels w from to)
  unfolding parcels
  in_copied p base field edge mb mf me head is =
      let all = flat_map of_box (own from w.schedule.level) in
      let answers = map (λ q. answered w q) (requests w.schedule to from) in
      let along = Member-filter leads edge (copies w.schedule field.1 base) me (eq-eqb edge.head.owner to head) in
      let one = Member-filter_map (λ e. copied_along w field.0 field.1 e) p edge (filter leads (copies w.schedule field.1 base)) along is in
      Member-in_order parcel_total same_from_parcel_cmp p (packed_for w from to)
      (Member-append_left p all answers
      (Member-flat_map of_box p base (own from w.schedule.level) mb (Member-flat_map (by_field base) p field (enumerate_from 0 w.schedule.ghosts) mf one)))

  pub in_answers : (q : Request) → Member q (requests w.schedule to from) → Member (answered w q) (parcels w from to)
  unfolding parcels
  in_answers q m =
      let all = flat_map of_box (own from w.schedule.level) in
      let answers = map (λ q. answered w q) (requests w.schedule to from) in
      Member-in_order parcel_total same_from_parcel_cmp (answered w q) (packed_for w from to)
      (Member-append_right (answered w q) all answers (Member-map (λ q. answered w q) q (requests w.schedule to from) m))
