-- Which parcels of a linear fill there are.
use Rattle.std.proofs.Common.{◌≡◌, ◌⊎◌, ℕ, inl, inr}
use Rattle.std.proofs.lemmas.Bool.{eqb-true, eq-eqb}
use Rattle.std.specs.Prelude.{Bool, List, map, filter, nat_eq}
use Rattle.std.specs.List.{flat_map, filter_map, enumerate_from}
use Rattle.samr_box.specs.declared.vector.IVec.{IVec}
use Rattle.samr_box.specs.Lists.{Member}
use Rattle.samr_box.proofs.Members.{Member-append_left, Member-append_right, Member-from_append, Member-map, Member-from_map, Member-filter, Member-from_filter, Member-flat_map, Member-from_flat_map, Member-filter_map, Member-from_filter_map}
use Rattle.samr_level.specs.Refs.{Owned, Link}
use Rattle.samr_level.specs.Levels.{own}
use Rattle.samr_level.proofs.Sorting.{Member-in_order, Member-from_in_order}
use Rattle.samr_sched.specs.declared.plan.Request.{Request}
use Rattle.samr_sched.specs.Plans.{copies, requests}
use Rattle.samr_data.specs.declared.parcel.Parcel.{Parcel}
use Rattle.samr_data.proofs.ParcelOrderLaws.{parcel_total, same_from_parcel_cmp}
use Rattle.samr_fill.specs.FillRow.{copied_along}
use Rattle.samr_fill.proofs.FillRowLaws.{IsCopied}
use Rattle.samr_linear.specs.Around.{answered_around}
use Rattle.samr_linear.specs.LinearFill.{LinearFilling}
use Rattle.samr_linear.specs.LinearFillRow.{packed_for, linear_parcels}

-- a parcel that answers a request
pub record IsAround (w : LinearFilling) (from to : ℕ) (p : Parcel) : Type 0 where
  pub request : Request
  pub asked : Member request (requests w.filling.schedule to from)
  pub is : p ≡ answered_around w.filling w.stencil w.below request

module _ (w : LinearFilling) (from to : ℕ) where
  abbrev leads : Link → Bool
  leads e = nat_eq e.head.owner to

  abbrev by_field : Owned → ℕ × IVec → List Parcel
  by_field b f = filter_map (λ e. copied_along w.filling f.0 f.1 e) (filter leads (copies w.filling.schedule f.1 b))

  abbrev of_box : Owned → List Parcel
  of_box b = flat_map (by_field b) (enumerate_from 0 w.filling.schedule.ghosts)

  abbrev answer : Request → Parcel
  answer q = answered_around w.filling w.stencil w.below q

  pub from_linear : (p : Parcel) → Member p (linear_parcels w from to) → IsCopied w.filling from to p ⊎ IsAround w from to p
  unfolding linear_parcels
  from_linear p m =
      let s = w.filling.schedule in
      let all = flat_map of_box (own from s.level) in
      let answers = map answer (requests s to from) in
      elim (Member-from_append p all answers (Member-from_in_order parcel_total p (packed_for w from to) m)) [
        | inl here ↦
            let b = Member-from_flat_map of_box p (own from s.level) here in
            let f = Member-from_flat_map (by_field b.0) p (enumerate_from 0 s.ghosts) b.2 in
            let e = Member-from_filter_map (λ e. copied_along w.filling f.0.0 f.0.1 e) p (filter leads (copies s f.0.1 b.0)) f.2 in
            let g = Member-from_filter leads e.0 (copies s f.0.1 b.0) e.1 in
            inl (record {
              base = b.0;
              field = f.0;
              edge = e.0;
              own_base = b.1;
              its_field = f.1;
              its_edge = g.0;
              its_head = eqb-true e.0.head.owner to g.1;
              is = e.2;
            })
        | inr there ↦
            let q = Member-from_map answer p (requests s to from) there in
            inr (record { request = q.0; asked = q.1; is = q.2 })
      ]

  pub in_linear_copied : (p : Parcel) → IsCopied w.filling from to p → Member p (linear_parcels w from to)
  unfolding linear_parcels
  in_linear_copied p c =
      let s = w.filling.schedule in
      let all = flat_map of_box (own from s.level) in
      let answers = map answer (requests s to from) in
      let along = Member-filter leads c.edge (copies s c.field.1 c.base) c.its_edge (eq-eqb c.edge.head.owner to c.its_head) in
      let one = Member-filter_map (λ e. copied_along w.filling c.field.0 c.field.1 e) p c.edge (filter leads (copies s c.field.1 c.base)) along c.is in
      Member-in_order parcel_total same_from_parcel_cmp p (packed_for w from to)
      (Member-append_left p all answers
      (Member-flat_map of_box p c.base (own from s.level) c.own_base (Member-flat_map (by_field c.base) p c.field (enumerate_from 0 s.ghosts) c.its_field one)))

  pub in_linear_answers : (q : Request) → Member q (requests w.filling.schedule to from) → Member (answered_around w.filling w.stencil w.below q) (linear_parcels w from to)
  unfolding linear_parcels
  in_linear_answers q m =
      let s = w.filling.schedule in
      let all = flat_map of_box (own from s.level) in
      let answers = map answer (requests s to from) in
      Member-in_order parcel_total same_from_parcel_cmp (answer q) (packed_for w from to)
      (Member-append_right (answer q) all answers (Member-map answer q (requests s to from) m))
