-- The stage of a rank: its letters, and what it has once all have come.
use Rattle.std.proofs.Common.{◌≡◌, ◌≢◌, ◌⊎◌, ℕ, ◌+◌, ◌<◌, refl, sym, ap, ◌∙◌, subst, inl, inr, arith, length, sum_by}
use Rattle.std.proofs.lemmas.Bool.{cases_eq, false≢true, eq-eqb, eqb-true}
use Rattle.std.proofs.lemmas.Cmp.{nat_cmp_total}
use Rattle.std.specs.Ordering.{nat_cmp}
use Rattle.std.specs.Prelude.{◌↔◌, Bool, true, false, cond, List, [], ◌∷◌, ◌++◌, map, filter, Option, Some, None, nat_eq, slice_get}
use Rattle.std.specs.List.{flat_map, filter_map, enumerate_from, find}
use Rattle.std.specs.List.Sorted.{IsPermutation}
use Rattle.samr_box.specs.declared.vector.IVec.{IVec}
use Rattle.samr_box.specs.Corners.{Holds}
use Rattle.samr_box.specs.Lists.{Member}
use Rattle.samr_box.proofs.Ascending.{same_from_members}
use Rattle.samr_box.proofs.Members.{Member-append_left, Member-append_right, Member-from_append, Member-map, Member-from_map, Member-flat_map, Member-from_flat_map, Member-filter, Member-from_filter, Member-filter_map, Member-from_filter_map}
use Rattle.samr_stage.specs.declared.stage.Held.{Held}
use Rattle.samr_stage.specs.Row.{told, heard, column}
use Rattle.samr_level.specs.Refs.{Owned, Link, turned}
use Rattle.samr_level.specs.RefOrders.{in_order}
use Rattle.samr_level.specs.Levels.{own}
use Rattle.samr_level.specs.Overlaps.{scale, true_overlaps, of_rank}
use Rattle.samr_level.proofs.RefLaws.{same_nat}
use Rattle.samr_level.proofs.Sorting.{Member-in_order, Member-from_in_order, sorted-in_order}
use Rattle.samr_level.proofs.Overlapping.{Member-overlaps, Member-from_overlaps, Member-of_rank, Member-from_of_rank}
use Rattle.samr_peers.specs.Peers.{other_owners, peer_row, TurnsInto, AreTransposes}
use Rattle.samr_peers.proofs.PeerRows.{Member-others, Member-from_others, others_sorted, letters_are, count_is, heard_in, heard_out}
use Rattle.samr_peers.proofs.PairTurns.{self_turns, pair_turns}
use Rattle.samr_data.specs.Grids.{Grid, value_at}
use Rattle.samr_ops.specs.declared.rules.Rules.{Rules}
use Rattle.samr_sched.specs.declared.plan.Request.{Request}
use Rattle.samr_sched.specs.declared.plan.FieldPlan.{FieldPlan}
use Rattle.samr_sched.specs.declared.plan.BoxPlan.{BoxPlan}
use Rattle.samr_sched.specs.declared.plan.Asked.{Asked}
use Rattle.samr_sched.specs.declared.plan.Plan.{Plan}
use Rattle.samr_sched.specs.Ask.{Scheduling, IsScheduling, frame_of, coarse_frame, selves_of, downs_of, selves, ups, downs}
use Rattle.samr_sched.specs.Plans.{request_cmp, copies, field_plan, box_plan, box_plans, all_asked, requests, others, plan_of}
use Rattle.samr_data.specs.declared.parcel.Parcel.{Parcel}
use Rattle.samr_data.specs.ParcelOrder.{parcel_cmp}
use Rattle.samr_data.proofs.ParcelOrderLaws.{parcel_total, same_from_parcel_cmp}
use Rattle.samr_fill.specs.Fill.{Filling, IsFilling}
use Rattle.samr_fill.specs.FillParts.{HasValues, HasFields, HasPatches}
use Rattle.samr_fill.specs.FillRow.{copied_along, answered, packed_for, parcels, sends, hears, fill_row}
use Rattle.samr_fill.specs.Sending.{for_some, all_copies, answer_from, parcels_from, asked_by, asked_of_itself, united, letters_from}
use Rattle.samr_fill.specs.Staging.{IsReady, HasLetters}
use Rattle.samr_fill.specs.Orders.{AreInOrder}
use Rattle.samr_fill.specs.FilledSoFar.{HasParcels, IsPatch, IsField, AreFields}
use Rattle.samr_fill.proofs.OrderLaws.{member_after, member_before}
use Rattle.samr_fill.proofs.Numbered.{some_same, none_some, get_member}
use Rattle.samr_fill.proofs.FillRowLaws.{request_total, same_from_request_cmp, IsCopied, IsAnswer, IsRequested, from_requests, from_parcels}
use Rattle.samr_fill.proofs.Truths.{own_box, width_at, copy_edge, copy_self, down_edge}
use Rattle.samr_fill.proofs.SendingLaws.{copies_same, answers_same, answer_same}

-- the edges by which ranks tell, and those by which they hear
both_turn : (ranks : ℕ) (a b c : ℕ → List Link) → TurnsInto ranks a a → TurnsInto ranks b c → TurnsInto ranks (λ r. a r ++ b r) (λ r. a r ++ c r)
both_turn ranks a b c f g rank e m =
    elim (Member-from_append e (a rank) (b rank) m) [
      | inl x ↦ let h = f rank e x in (h.0, h.1, Member-append_left (turned e) (a e.head.owner) (c e.head.owner) h.2)
      | inr y ↦ let h = g rank e y in (h.0, h.1, Member-append_right (turned e) (a e.head.owner) (c e.head.owner) h.2)
    ]

pub edges_turn : (w : Filling) → IsFilling w → AreTransposes w.schedule.ranks (sends w) (hears w)
edges_turn w is =
    let s = w.schedule in
    let own_level = is.schedule.level.owners in
    let own_coarser = is.schedule.coarser.owners in
    let self = self_turns s.region.frame s.width s.ratio s.level s.ranks own_level in
    let down = pair_turns s.region.frame s.reach s.ratio s.below s.level s.coarser s.ranks own_level own_coarser in
    record {
      forth = both_turn s.ranks (selves s) (ups s) (downs s) self.forth down.home;
      home = both_turn s.ranks (selves s) (downs s) (ups s) self.home down.forth;
    }

pub row_is : (w : Filling) → fill_row w ≡ peer_row w.schedule.ranks (sends w) (parcels w)
unfolding fill_row
row_is w = refl

-- two lists of owners are those of both lists of edges
united_is : (r : ℕ) (a b : List Link) → united (other_owners r a) (other_owners r b) ≡ other_owners r (a ++ b)
unfolding united
united_is r a b =
    same_from_members nat_cmp_total (in_order nat_cmp (other_owners r a ++ other_owners r b)) (other_owners r (a ++ b))
    (sorted-in_order nat_cmp_total (other_owners r a ++ other_owners r b)) (others_sorted r (a ++ b))
    (λ k m.
    elim (Member-from_append k (other_owners r a) (other_owners r b) (Member-from_in_order nat_cmp_total k (other_owners r a ++ other_owners r b) m)) [
      | inl x ↦ let f = Member-from_others r a k x in subst (λ (v : ℕ). Member v (other_owners r (a ++ b))) f.2 (Member-others r (a ++ b) f.0 (Member-append_left f.0 a b f.1) (λ e. f.3 (sym f.2 ∙ e)))
      | inr y ↦ let f = Member-from_others r b k y in subst (λ (v : ℕ). Member v (other_owners r (a ++ b))) f.2 (Member-others r (a ++ b) f.0 (Member-append_right f.0 a b f.1) (λ e. f.3 (sym f.2 ∙ e)))
    ])
    (λ k m.
    let f = Member-from_others r (a ++ b) k m in
    let other : f.0.head.owner ≢ r = λ e. f.3 (sym f.2 ∙ e) in
    Member-in_order nat_cmp_total same_nat k (other_owners r a ++ other_owners r b)
    (elim (Member-from_append f.0 a b f.1) [
      | inl x ↦ subst (λ (v : ℕ). Member v (other_owners r a ++ other_owners r b)) f.2 (Member-append_left f.0.head.owner (other_owners r a) (other_owners r b) (Member-others r a f.0 x other))
      | inr y ↦ subst (λ (v : ℕ). Member v (other_owners r a ++ other_owners r b)) f.2 (Member-append_right f.0.head.owner (other_owners r a) (other_owners r b) (Member-others r b f.0 y other))
    ]))

-- who asks, and what
find_asked : (ks : List ℕ) (body : ℕ → List Request) (to : ℕ) → Member to ks
    → find (λ (a : Asked). nat_eq a.rank to) (map (λ k. let a : Asked = record { rank = k; requests = body k } in a) ks) ≡ Some (record { rank = to; requests = body to })
find_asked [] body to m = absurd m
find_asked (k ∷ ks) body to m = by_case (nat_eq k to) refl m (λ later. find_asked ks body to later)
  where
    by_case : (t : Bool) → nat_eq k to ≡ t → Member to (k ∷ ks) → (Member to ks → find (λ (a : Asked). nat_eq a.rank to) (map (λ k. let a : Asked = record { rank = k; requests = body k } in a) ks) ≡ Some (record { rank = to; requests = body to }))
        → cond t (Some (record { rank = k; requests = body k })) (find (λ (a : Asked). nat_eq a.rank to) (map (λ k. let a : Asked = record { rank = k; requests = body k } in a) ks))
        ≡ Some (record { rank = to; requests = body to })
    by_case true e m rest = ap (λ (n : ℕ). let a : Asked = record { rank = n; requests = body n } in Some a) (eqb-true k to e)
    by_case false e (inl same) rest = absurd (false≢true (sym e ∙ eq-eqb k to (sym same)))
    by_case false e (inr later) rest = rest later

find_none : (ks : List ℕ) (body : ℕ → List Request) (to : ℕ) → (Member to ks → ⊥)
    → find (λ (a : Asked). nat_eq a.rank to) (map (λ k. let a : Asked = record { rank = k; requests = body k } in a) ks) ≡ None
find_none [] body to none = refl
find_none (k ∷ ks) body to none = by_case (nat_eq k to) refl (find_none ks body to (λ m. none (inr m)))
  where
    by_case : (t : Bool) → nat_eq k to ≡ t → find (λ (a : Asked). nat_eq a.rank to) (map (λ k. let a : Asked = record { rank = k; requests = body k } in a) ks) ≡ None
        → cond t (Some (record { rank = k; requests = body k })) (find (λ (a : Asked). nat_eq a.rank to) (map (λ k. let a : Asked = record { rank = k; requests = body k } in a) ks)) ≡ None
    by_case true e rest = absurd (none (inl (sym (eqb-true k to e))))
    by_case false e rest = rest

map_ranks : (ks : List ℕ) (body : ℕ → List Request) → map (λ (a : Asked). a.rank) (map (λ k. let a : Asked = record { rank = k; requests = body k } in a) ks) ≡ ks
map_ranks [] body = refl
map_ranks (k ∷ ks) body = ap (λ (l : List ℕ). k ∷ l) (map_ranks ks body)

no_members : {X : Type 0} (xs : List X) → ((x : X) → Member x xs → ⊥) → xs ≡ []
no_members [] none = refl
no_members (x ∷ xs) none = absurd (none x (inl refl))

map_same : {X Y : Type 0} (f g : X → Y) (xs : List X) → ((x : X) → Member x xs → f x ≡ g x) → map f xs ≡ map g xs
map_same f g [] each = refl
map_same {X} {Y} f g (x ∷ xs) each = ap (λ (y : Y). y ∷ map f xs) (each x (inl refl)) ∙ ap (λ (l : List Y). g x ∷ l) (map_same f g xs (λ y m. each y (inr m)))

module _ (w : Filling) (is : IsFilling w) (r : ℕ) where
  -- a rank that asks is among those
  asker : (to : ℕ) → to ≢ r → (q : Request) → Member q (requests w.schedule to r) → Member to (other_owners r (ups w.schedule r))
  asker to other q m =
      let s = w.schedule in
      let k = from_requests s to r q m in
      let base = own_box to s.level k.base k.own_base in
      let n = scale s.region.frame s.reach s.ratio s.below in
      let f = Member-from_overlaps n (k.base ∷ []) s.coarser k.edge k.its_edge in
      let start : k.edge.base ≡ k.base = only k.base k.edge.base f.is_base in
      let all = Member-overlaps n s.level s.coarser k.edge
      (record { is_base = subst (λ (o : Owned). Member o s.level) (sym start) base.0; is_head = f.is_head; is_shift = f.is_shift; is_near = f.is_near }) in
      let owner : k.edge.base.owner ≡ to = ap (λ (o : Owned). o.owner) start ∙ base.1 in
      let mine = Member-of_rank to (true_overlaps n s.level s.coarser) k.edge all owner in
      let turns = pair_turns s.region.frame s.reach s.ratio s.below s.level s.coarser s.ranks is.schedule.level.owners is.schedule.coarser.owners in
      let back = (turns.forth to k.edge mine).2 in
      let here : Member (turned k.edge) (ups s r) = subst (λ (v : ℕ). Member (turned k.edge) (ups s v)) k.its_head back in
      subst (λ (v : ℕ). Member v (other_owners r (ups s r))) owner (Member-others r (ups s r) (turned k.edge) here (λ e. other (sym owner ∙ e)))
    where
      only : (base b : Owned) → Member b (base ∷ []) → b ≡ base
      only base b (inl e) = e
      only base b (inr m) = absurd m

  asked_same : (to : ℕ) → to ≢ r → asked_by (others w.schedule r) to ≡ requests w.schedule to r
  unfolding asked_by others
  asked_same to other =
      let s = w.schedule in
      let ks = other_owners r (ups s r) in
      elim (is_member to ks) [
        | inl m ↦ ap (λ o. for_some o (λ (a : Asked). a.requests)) (find_asked ks (λ k. requests s k r) to m)
        | inr none ↦
            ap (λ o. for_some o (λ (a : Asked). a.requests)) (find_none ks (λ k. requests s k r) to none)
            ∙ sym (no_members (requests s to r) (λ q m. none (asker to other q m)))
      ]
    where
      is_member : (x : ℕ) (xs : List ℕ) → Member x xs ⊎ (Member x xs → ⊥)
      is_member x [] = inr (λ m. m)
      is_member x (y ∷ ys) =
          elim (cases_eq x y) [
            | inl e ↦ inl (inl e)
            | inr f ↦ elim (is_member x ys) [
              | inl m ↦ inl (inr m)
              | inr none ↦ inr (λ m. elim m [ inl e ↦ f e | inr later ↦ none later ])
            ]
          ]

  module _ (patches coarser : List (List Grid)) (has : HasValues w.values (own r w.schedule.level) patches)
      (fields : length patches ≡ length w.rules)
      (widths : (f place : ℕ) (field : List Grid) (p : Grid) (g : IVec) → slice_get patches f ≡ Some field → slice_get field place ≡ Some p
      → slice_get w.schedule.ghosts f ≡ Some g → p.width ≡ g)
      (below : HasValues w.coarse_values (own r w.schedule.coarser) coarser) (coarse_fields : HasFields w coarser) where
    parcels_same : (to : ℕ) → parcels_from (plan_of w.schedule r) patches coarser to (requests w.schedule to r) ≡ packed_for w r to
    unfolding parcels_from
    parcels_same to =
        let s = w.schedule in
        let a = copies_same w is r to patches has fields widths (box_plans s r) refl in
        let b = answers_same w is r to coarser below coarse_fields in
        ap (λ (l : List Parcel). l ++ filter_map (λ q. answer_from (coarse_frame s) coarser q) (requests s to r)) a
        ∙ ap (λ (l : List Parcel). flat_map (λ b. flat_map (λ f. filter_map (λ e. copied_along w f.0 f.1 e) (filter (λ e. nat_eq e.head.owner to) (copies s f.1 b))) (enumerate_from 0 s.ghosts)) (own r s.level) ++ l) b

    in_order_same : (to : ℕ) → in_order parcel_cmp (parcels_from (plan_of w.schedule r) patches coarser to (requests w.schedule to r)) ≡ parcels w r to
    unfolding parcels
    in_order_same to = ap (in_order parcel_cmp) (parcels_same to)

    pub letters_same : r < w.schedule.ranks → letters_from (plan_of w.schedule r) patches coarser (united (other_owners r (selves w.schedule r)) (map (λ a. a.rank) (others w.schedule r)))
        ≡ told (fill_row w r) w.schedule.ranks
    unfolding letters_from others
    letters_same within =
        let s = w.schedule in
        let plan = plan_of s r in
        let make : ℕ → ℕ × List Parcel = λ to. (to, in_order parcel_cmp (parcels_from plan patches coarser to (asked_by (others s r) to))) in
        ap (λ (l : List ℕ). map make (united (other_owners r (selves s r)) l)) (map_ranks (other_owners r (ups s r)) (λ k. requests s k r))
        ∙ ap (map make) (united_is r (selves s r) (ups s r))
        ∙ map_same make (λ to. (to, parcels w r to)) (other_owners r (sends w r))
        (λ to m.
        let f = Member-from_others r (sends w r) to m in
        ap (λ (l : List Request). (to, in_order parcel_cmp (parcels_from plan patches coarser to l))) (asked_same to f.3) ∙ ap (λ (l : List Parcel). (to, l)) (in_order_same to))
        ∙ sym (letters_are s.ranks (sends w) (hears w) (parcels w) (edges_turn w is) r within)
        ∙ ap (λ row. told (row r) s.ranks) (sym (row_is w))

    -- what a rank asks of itself
    own_asked : (q : Request) → Member q (asked_of_itself r (box_plans w.schedule r)) ↔ Member q (requests w.schedule r r)
    unfolding asked_of_itself requests
    own_asked q =
        let plans = box_plans w.schedule r in
        let test : Request → Bool = λ q. nat_eq q.edge.head.owner r in
        let by_field : FieldPlan → List Request = λ f. filter test f.asked in
        let by_box : BoxPlan → List Request = λ b. flat_map by_field b.fields in
        let asked_in : BoxPlan → List Request = λ b. flat_map (λ (f : FieldPlan). f.asked) b.fields in (
          λ m.
              let b = Member-from_flat_map by_box q plans m in
              let f = Member-from_flat_map by_field q b.0.fields b.2 in
              let t = Member-from_filter test q f.0.asked f.2 in
              Member-in_order request_total same_from_request_cmp q (filter test (all_asked plans))
              (Member-filter test q (all_asked plans) (Member-flat_map asked_in q b.0 plans b.1 (Member-flat_map (λ (f : FieldPlan). f.asked) q f.0 b.0.fields f.1 t.0)) t.1),
          λ m.
              let t = Member-from_filter test q (all_asked plans) (Member-from_in_order request_total q (filter test (all_asked plans)) m) in
              let b = Member-from_flat_map asked_in q plans t.0 in
              let f = Member-from_flat_map (λ (f : FieldPlan). f.asked) q b.0.fields b.2 in
              Member-flat_map by_box q b.0 plans b.1 (Member-flat_map by_field q f.0 b.0.fields f.1 (Member-filter test q f.0.asked f.2 t.1)),
        )

    own_packed : (p : Parcel) → Member p (parcels_from (plan_of w.schedule r) patches coarser r (asked_of_itself r (box_plans w.schedule r))) ↔ Member p (packed_for w r r)
    unfolding parcels_from
    own_packed p =
        let s = w.schedule in
        let asks = asked_of_itself r (box_plans s r) in
        let h : Request → Option Parcel = λ q. answer_from (coarse_frame s) coarser q in
        let here = all_copies (frame_of s) r patches (box_plans s r) in
        let there = flat_map (λ b. flat_map (λ f. filter_map (λ e. copied_along w f.0 f.1 e) (filter (λ e. nat_eq e.head.owner r) (copies s f.1 b))) (enumerate_from 0 s.ghosts)) (own r s.level) in
        let same : here ≡ there = copies_same w is r r patches has fields widths (box_plans s r) refl in
        let answer = answer_same w is r r coarser below coarse_fields in (
          λ m. elim (Member-from_append p here (filter_map h asks) m) [
            | inl x ↦ Member-append_left p there (map (λ q. answered w q) (requests s r r)) (subst (λ (l : List Parcel). Member p l) same x)
            | inr y ↦
                let q = Member-from_filter_map h p asks y in
                let mq = (own_asked q.0).0 q.1 in
                let e : p ≡ answered w q.0 = some_same (sym q.2 ∙ answer q.0 mq) in
                Member-append_right p there (map (λ q. answered w q) (requests s r r))
                (subst (λ (v : Parcel). Member v (map (λ q. answered w q) (requests s r r))) (sym e) (Member-map (λ q. answered w q) q.0 (requests s r r) mq))
          ],
          λ m. elim (Member-from_append p there (map (λ q. answered w q) (requests s r r)) m) [
            | inl x ↦ Member-append_left p here (filter_map h asks) (subst (λ (l : List Parcel). Member p l) (sym same) x)
            | inr y ↦
                let q = Member-from_map (λ q. answered w q) p (requests s r r) y in
                Member-append_right p here (filter_map h asks)
                (Member-filter_map h p q.0 asks ((own_asked q.0).1 q.1) (answer q.0 q.1 ∙ ap (λ v. Some v) (sym q.2)))
          ],
        )

    pub own_parcels : (p : Parcel) → Member p (parcels_from (plan_of w.schedule r) patches coarser r (asked_of_itself r (box_plans w.schedule r))) ↔ Member p (parcels w r r)
    unfolding parcels
    own_parcels p = (
      λ m. Member-in_order parcel_total same_from_parcel_cmp p (packed_for w r r) ((own_packed p).0 m),
      λ m. (own_packed p).1 (Member-from_in_order parcel_total p (packed_for w r r) m),
    )

  -- whoever has a parcel for the rank is heard
  hearing : (from : ℕ) (p : Parcel) → Member p (parcels w from r) → (e : Link) × Member e (hears w r) × (e.head.owner ≡ from)
  hearing from p m =
      let s = w.schedule in
      elim (from_parcels w from r p m) [
        | inl c ↦
            let e = c.edge in
            let edge = copy_edge s c.field.1 c.base e c.its_edge in
            let n = scale s.region.frame s.width s.ratio s.ratio in
            let base = own_box from s.level c.base c.own_base in
            let f = Member-from_overlaps n (c.base ∷ []) s.level e (copy_self s c.field.1 c.base e c.its_edge) in
            let all = Member-overlaps n s.level s.level e
            (record { is_base = subst (λ (o : Owned). Member o s.level) (sym edge.base) base.0; is_head = f.is_head; is_shift = f.is_shift; is_near = f.is_near }) in
            let owner : e.base.owner ≡ from = ap (λ (o : Owned). o.owner) edge.base ∙ base.1 in
            let there = Member-of_rank from (true_overlaps n s.level s.level) e all owner in
            let back = ((self_turns s.region.frame s.width s.ratio s.level s.ranks is.schedule.level.owners).forth from e there).2 in
            let here : Member (turned e) (selves s r) = subst (λ (v : ℕ). Member (turned e) (selves s v)) c.its_head back in
            (turned e, Member-append_left (turned e) (selves s r) (downs s r) here, owner)
        | inr a ↦
            let k = from_requests s r from a.request a.asked in
            let n = scale s.region.frame s.reach s.ratio s.below in
            let base = own_box r s.level k.base k.own_base in
            let edge = down_edge s k.base k.edge k.its_edge in
            let f = Member-from_overlaps n (k.base ∷ []) s.coarser k.edge k.its_edge in
            let all = Member-overlaps n s.level s.coarser k.edge
            (record { is_base = subst (λ (o : Owned). Member o s.level) (sym edge.base) base.0; is_head = f.is_head; is_shift = f.is_shift; is_near = f.is_near }) in
            let owner : k.edge.base.owner ≡ r = ap (λ (o : Owned). o.owner) edge.base ∙ base.1 in
            (k.edge, Member-append_right k.edge (selves s r) (downs s r) (Member-of_rank r (true_overlaps n s.level s.coarser) k.edge all owner), k.its_head)
      ]

  pub awaits : r < w.schedule.ranks → length (other_owners r (hears w r)) ≡ sum_by (λ (held : Held (List Parcel)). 1) (heard (column (fill_row w) r) w.schedule.ranks)
  awaits within =
      count_is w.schedule.ranks (sends w) (hears w) (parcels w) (edges_turn w is) r within
      ∙ ap (λ row. sum_by (λ (held : Held (List Parcel)). 1) (heard (column row r) w.schedule.ranks)) (sym (row_is w))

-- once all parcels have come
module _ (plan : Plan) (patches : List (List Grid)) (rules : List Rules) (mine : List Parcel) (senders : List ℕ) (w : Filling) (r : ℕ)
    (h : IsReady plan patches rules mine senders w r) where
  pub has_parcels : (held : List (Held (List Parcel))) → held ≡ heard (column (fill_row w) r) w.schedule.ranks → (all : List Parcel)
      → all ≡ mine ++ flat_map (λ letter. letter.body) held → (sorted : List Parcel) → IsPermutation all sorted → AreInOrder sorted → HasParcels plan sorted w r
  has_parcels held are all is sorted same order =
      let ranks = w.schedule.ranks in
      let turns = edges_turn w h.is in
      let body : Held (List Parcel) → List Parcel = λ letter. letter.body in
      let come_all = are ∙ ap (λ row. heard (column row r) ranks) (row_is w) in
      record {
        is = h.is;
        within = h.within;
        same_plan = h.same_plan;
        known = λ p m.
            elim (Member-from_append p mine (flat_map body held) (subst (λ (l : List Parcel). Member p l) is (member_before all sorted same p m))) [
              | inl x ↦ (r, (h.own_parcels p).0 x)
              | inr y ↦
                  let letter = Member-from_flat_map body p held y in
                  let out = heard_out ranks (sends w) (hears w) (parcels w) turns r h.within letter.0 (subst (λ (l : List (Held (List Parcel))). Member letter.0 l) come_all letter.1) in
                  (letter.0.sender, subst (λ (l : List Parcel). Member p l) out.0 letter.2)
            ];
        come = λ from p below m.
            member_after all sorted same p
            (subst (λ (l : List Parcel). Member p l) (sym is)
            (elim (cases_eq from r) [
              | inl e ↦ Member-append_left p mine (flat_map body held) ((h.own_parcels p).1 (subst (λ (k : ℕ). Member p (parcels w k r)) e m))
              | inr other ↦
                  let e = hearing w h.is r from p m in
                  let letter : Held (List Parcel) = record { sender = e.0.head.owner; body = parcels w e.0.head.owner r } in
                  let there = heard_in ranks (sends w) (hears w) (parcels w) turns r h.within e.0 e.1 (λ same. other (sym e.2 ∙ same)) in
                  Member-append_right p mine (flat_map body held)
                  (Member-flat_map body p letter held (subst (λ (l : List (Held (List Parcel))). Member letter l) (sym come_all) there)
                  (subst (λ (k : ℕ). Member p (parcels w k r)) (sym e.2) m))
            ]));
        ordered = order;
      }

  pub are_fields : (all : List Parcel) → HasParcels plan all w r → AreFields plan all rules patches w r
  are_fields all has = record {
    has = has;
    same_rules = h.same_rules;
    full = h.fields ∙ sym (ap (λ (l : List Rules). length l) h.same_rules);
    field = λ f s field rule there.
        let here : slice_get w.rules f ≡ Some s = ap (λ (l : List Rules). slice_get l f) (sym h.same_rules) ∙ rule in
        record {
          has = has;
          same_rules = here;
          full = h.same_values.full f field there;
          patch = λ place p b at bb.
              let facts = h.same_values.patch f place field p there at in
              let same : facts.0 ≡ b = some_same (sym facts.1 ∙ bb) in
              record {
                same_box = facts.2 ∙ ap (λ (o : Owned). o.bx) same;
                same_width = h.widths f place field p s.width there at (width_at w h.is f s here);
                values = λ x q. facts.3 x (subst (λ (o : Owned). Holds o.bx x) (sym same) q);
              };
        };
  }

-- what it has from the start
pub has_letters : (rank ranks : ℕ) (plan : Plan) (patches coarser : List (List Grid)) (rules : List Rules) (w : Filling) (r : ℕ) → HasPatches rank ranks plan patches coarser rules w r
    → (copy : Plan) → copy ≡ plan → (letters : List (ℕ × List Parcel)) (mine : List Parcel) (senders : List ℕ)
    → letters ≡ letters_from plan patches coarser (united plan.near (map (λ a. a.rank) plan.others)) → mine ≡ parcels_from plan patches coarser rank (asked_of_itself rank plan.boxes)
    → senders ≡ united plan.near plan.under → HasLetters copy patches rules letters mine senders w r
has_letters rank ranks plan patches coarser rules w r h copy same letters mine senders letters_are mine_are senders_are =
    let s = w.schedule in
    let p = plan_of s r in
    let mine_is : mine ≡ parcels_from p patches coarser r (asked_of_itself r (box_plans s r)) =
    mine_are
    ∙ ap (λ (q : Plan). parcels_from q patches coarser rank (asked_of_itself rank q.boxes)) h.same_plan
    ∙ ap (λ (k : ℕ). parcels_from p patches coarser k (asked_of_itself k (box_plans s r))) h.same_rank in
    let own_law = own_parcels w h.is r patches coarser h.same_values h.fields h.widths h.same_coarser h.coarse_fields in
    record {
      ready = record {
        is = h.is;
        within = h.within;
        same_plan = same ∙ h.same_plan;
        same_rules = h.same_rules;
        same_values = h.same_values;
        fields = h.fields;
        widths = h.widths;
        own_parcels = λ q. (
          λ m. (own_law q).0 (subst (λ (l : List Parcel). Member q l) mine_is m),
          λ m. subst (λ (l : List Parcel). Member q l) (sym mine_is) ((own_law q).1 m),
        );
        same_senders = senders_are ∙ ap (λ (q : Plan). united q.near q.under) h.same_plan ∙ united_is r (selves s r) (downs s r);
      };
      same_letters =
          letters_are
          ∙ ap (λ (q : Plan). letters_from q patches coarser (united q.near (map (λ a. a.rank) q.others))) h.same_plan
          ∙ letters_same w h.is r patches coarser h.same_values h.fields h.widths h.same_coarser h.coarse_fields h.within;
    }

pub ready_fields : (plan : Plan) (patches : List (List Grid)) (rules : List Rules) (mine : List Parcel) (senders : List ℕ) (w : Filling) (r : ℕ) → IsReady plan patches rules mine senders w r
    → (held : List (Held (List Parcel))) → held ≡ heard (column (fill_row w) r) w.schedule.ranks → (all : List Parcel) → all ≡ mine ++ flat_map (λ letter. letter.body) held
    → (sorted : List Parcel) → IsPermutation all sorted → AreInOrder sorted → (l : List Parcel) → l ≡ sorted → (own : List (List Grid)) → own ≡ patches → AreFields plan l rules own w r
ready_fields plan patches rules mine senders w r h held are all is sorted same order l at own e =
    subst (λ (p : List (List Grid)). AreFields plan l rules p w r) (sym e)
    (are_fields plan patches rules mine senders w r h l (subst (λ (ps : List Parcel). HasParcels plan ps w r) (sym at) (has_parcels plan patches rules mine senders w r h held are all is sorted same order)))
