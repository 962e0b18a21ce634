-- The rows of a plan by its parts are those of its ghost cells.
use Rattle.std.proofs.Common.{◌≡◌, ℕ, ◌+◌, ◌-◌, ◌<◌, ◌≤◌, ◌^◌, refl, sym, ap, ◌∙◌, subst, not, arith}
use Rattle.std.proofs.lemmas.Bool.{false≢true, and_from, and_parts, not-true, false_from_ne_true}
use Rattle.std.proofs.lemmas.List.{length-map}
use Rattle.std.proofs.lemmas.List.FromFn.{length-enumerate_from}
use Rattle.std.proofs.lemmas.List.Kept.{IsStrictlySortedBy-filter}
use Rattle.std.specs.Prelude.{length, sum_by, nat_eq, Bool, true, false, cond, ◌&&◌, Option, Some, None, List, [], ◌∷◌, map, filter}
use Rattle.std.specs.List.{flat_map, filter_map, enumerate_from, list_any}
use Rattle.std.specs.Option.{option_map}
use Rattle.samr_box.specs.declared.vector.IVec.{IVec}
use Rattle.samr_box.specs.Vector.{times}
use Rattle.samr_box.specs.Corners.{Corners, IsBox, Holds, holds, meets, common, grown, cells_of}
use Rattle.samr_box.specs.Ratios.{coarse, refined, coarsened}
use Rattle.samr_box.specs.Space.{image, wrapped}
use Rattle.samr_box.specs.Lists.{Member}
use Rattle.samr_box.proofs.CellSets.{holds-from, Holds-test, meets-from, Meet-cell}
use Rattle.samr_box.proofs.Members.{Member-map, Member-from_map, Member-filter, Member-from_filter, Member-flat_map, Member-from_flat_map, Member-filter_map, Member-from_filter_map, All-from_members}
use Rattle.samr_boxlist.specs.Covers.{held}
use Rattle.samr_bits.specs.Bits.{one}
use Rattle.samr_sign.specs.Counts.{tally}
use Rattle.samr_sign.proofs.Tallies.{tally_most, tally_none}
use Rattle.samr_level.specs.Refs.{Owned, Link}
use Rattle.samr_level.specs.RefOrders.{ref_cmp, edge_cmp}
use Rattle.samr_level.specs.Regions.{is_inside, IsCellOf}
use Rattle.samr_level.specs.Levels.{own}
use Rattle.samr_level.specs.Overlaps.{scale}
use Rattle.samr_level.proofs.Domains.{member-held, is_inside-means}
use Rattle.samr_level.proofs.RefLaws.{edge_total, same_from_edge_cmp}
use Rattle.samr_level.proofs.Sorting.{Member-in_order, Member-from_in_order, in_order_is}
use Rattle.samr_level.proofs.Overlapping.{Member-from_overlaps, overlaps_sorted}
use Rattle.samr_border.proofs.TurnLaws.{wrapped_stays}
use Rattle.samr_nest.specs.Starts.{needed}
use Rattle.samr_nest.specs.Nested.{IsPlain}
use Rattle.samr_nest.proofs.Moved.{AtMost-plus}
use Rattle.samr_nest.proofs.NearParts.{AllWithin, within_has}
use Rattle.samr_nest.proofs.NestedBy.{needed_within, holes_within}
use Rattle.samr_sched.specs.declared.plan.Request.{Request}
use Rattle.samr_sched.specs.declared.plan.FieldPlan.{FieldPlan}
use Rattle.samr_sched.specs.declared.row.Row.{Row}
use Rattle.samr_sched.specs.declared.row.Row.TheVariants.{Copy, Coarse, Outside}
use Rattle.samr_sched.specs.Ask.{Scheduling, IsScheduling, domain_of, frame_of, coarse_frame, selves_of, downs_of}
use Rattle.samr_sched.specs.Origins.{is_beyond, in_level, is_copy, is_coarse}
use Rattle.samr_sched.specs.Plans.{request, copies, rest, asked, asked_along, field_plan, box_plan, box_plans, plan_of}
use Rattle.samr_sched.specs.PlansOfParts.{has_ghosts, asked_of}
use Rattle.samr_sched.specs.PlanRows.{ghosts_with, has_cells, copy_row, coarse_row, outside_row, rows_of_box, rows_of, capped, in_image, under_image, asked_edges, copy_by, coarse_by, outside_by, field_rows_by, box_rows_by, rows_by, HasRoom, HaveRoom}
use Rattle.samr_sched.proofs.Requests.{request_total, same_from_request_cmp}
use Rattle.samr_sched.proofs.PlanLaws.{numbered_member, can_plan, own_facts}
use Rattle.samr_sched.proofs.Heads.{one_sorted, any_from, any_is}
use Rattle.samr_sched.proofs.LevelHeads.{of_frame, found}
use Rattle.samr_sched.proofs.OneOrigin.{three, level_is}
use Rattle.samr_sched.proofs.PlanTells.{and_not_from, not_parts, inside_is, rest_is, apart}
use Rattle.samr_sched.proofs.CellCounts.{tally_same, tally_part, tally_met, tally_under, Holds-coarse, sum_same, tally_pieces, tally_rest}
use Rattle.samr_sched.proofs.Pieces.{needed_once, holes_once}
use Rattle.samr_sched.proofs.KeptRows.{filter_three, kept_same, flat_map_map, numbered_again}

-- a count that is not greater than that of a box with room
stops_at : (k c : ℕ) → k ≤ c → c < 2 ^ 62 → capped k ≡ k
stops_at k c less few = omega (arith, less, few)

left_is : (c s u v : ℕ) → c < 2 ^ 62 → s ≡ u → u + v ≡ c → capped c - capped s ≡ v
left_is c s u v few e f = omega (arith, few, e, f)

one_or : (t : Bool) → one t + one (not t) ≡ 1
one_or true = refl
one_or false = refl

and_one : (t : Bool) → (t && true) ≡ t
and_one true = refl
and_one false = refl

-- a cell of the box is none beyond the borders, and none that the level does not have
beyond_alone : (o i : Bool) → (o ≡ true → i ≡ true) → (not o && not i) ≡ not i
beyond_alone true i f = ap not (sym (f refl))
beyond_alone false i f = refl

coarse_alone : (o i l z : Bool) → (o ≡ true → l ≡ true) → ((i && not l) && z) ≡ (not o && (i && (not l && z)))
coarse_alone true true l z f = ap (λ (v : Bool). not v && z) (f refl)
coarse_alone true false l z f = refl
coarse_alone false true l z f = refl
coarse_alone false false l z f = refl

-- the request of a common part, if there is one
asked_edge : (t : Bool) (e : Link) (field : ℕ) (c : Corners) (q : Request) → option_map (λ v. request e field v) (cond t (Some c) None) ≡ Some q → (t ≡ true) × (q.edge ≡ e)
asked_edge true e field c q is = (refl, ap (λ (v : Request). v.edge) (sym (same is)))
  where
    same : Some (request e field c) ≡ Some q → request e field c ≡ q
    same is = cc
asked_edge false e field c q is = absurd (differ is)
  where
    differ : (let none : Option Request = None in none) ≡ Some q → ⊥
    differ is = cc

module _ (w : Scheduling) (h : IsScheduling w) (b : Owned) (g : IVec) (m : Member b w.level) (n : Member g w.ghosts) where
  plain : IsPlain (domain_of w)
  plain axis e = ap (map (λ (p : Corners). refined p w.ratio)) (h.plain axis e)

  pub wide_box : IsBox (grown b.bx g)
  wide_box = ((h.ghosts g n).room b m).0

  stops : (t : IVec → Bool) → capped (tally t (grown b.bx g)) ≡ tally t (grown b.bx g)
  stops t = stops_at (tally t (grown b.bx g)) (cells_of (grown b.bx g)) (tally_most t (grown b.bx g)) ((h.ghosts g n).room b m).1

  -- the cells of the box lie in the domain, and in the level
  home : (x : IVec) → holds b.bx x ≡ true → wrapped (frame_of w) x ≡ x
  home x t = wrapped_stays (frame_of w) x h.area.frame (of_frame (domain_of w) w.ranks w.level h.area h.level b m x (Holds-test {b = b.bx} {x = x} t))

  box_inside : (x : IVec) → holds b.bx x ≡ true → is_inside (domain_of w) x ≡ true
  box_inside x t =
      (is_inside-means (domain_of w) x).1
      (subst (λ (v : IVec). IsCellOf (domain_of w) v) (sym (home x t)) (h.level.inside b x m (Holds-test {b = b.bx} {x = x} t)))

  box_level : (x : IVec) → Holds (grown b.bx g) x → holds b.bx x ≡ true → in_level w x ≡ true
  box_level x has t =
      level_is w h b g x m n has (b, m, subst (λ (v : IVec). Holds b.bx v) (sym (home x t)) (Holds-test {b = b.bx} {x = x} t))

  -- the copies along an edge
  copy_count : (e : Link) → Member e (selves_of w b) → has_ghosts (frame_of w) b.bx (grown b.bx g) e ≡ true
      → capped (in_image (frame_of w) (grown b.bx g) e) ≡ ghosts_with (is_copy w e.head e.shift) b.bx g
  unfolding ghosts_with
  copy_count e k t =
      let F = frame_of w in
      let there = image F e.head.bx e.shift in
      let o = Member-from_overlaps (scale w.region.frame w.width w.ratio w.ratio) (b ∷ []) w.level e k in
      let parts = not_parts (meets there (grown b.bx g)) (meets there b.bx) t in
      let test : IVec → Bool = λ x. not (holds b.bx x) && is_copy w e.head e.shift x in
      let count = tally_met test (grown b.bx g) (grown b.bx g) there wide_box.order wide_box.order
      (AtMost-plus e.head.bx.lo e.head.bx.hi (times e.shift F.size) (h.level.not_empty e.head o.is_head))
      (λ x p q.
      let on = holds-from {b = there} {x = x} q in
      let off : holds b.bx x ≡ false = false_from_ne_true (holds b.bx x)
      (λ s. false≢true (sym parts.1 ∙ meets-from {a = there} {b = b.bx} (Meet-cell {a = there} {b = b.bx} {x = x} q (Holds-test {b = b.bx} {x = x} s)))) in
      let f = found (domain_of w) w.ranks w.level h.area h.level e.head e.shift x o.is_head o.is_shift on in
      let inside = (is_inside-means (domain_of w) x).1 (h.level.inside e.head (wrapped F x) o.is_head f.0) in
      (p, and_from (not (holds b.bx x)) (is_inside (domain_of w) x && holds there x) (ap not off) (and_from (is_inside (domain_of w) x) (holds there x) inside on)))
      (λ x p s.
      let f = and_parts (not (holds b.bx x)) (is_inside (domain_of w) x && holds there x) s in
      (p, Holds-test {b = there} {x = x} (and_parts (is_inside (domain_of w) x) (holds there x) f.1).1)) in
      ap capped (sym count) ∙ stops test

  no_copy : (e : Link) → Member e (selves_of w b) → has_ghosts (frame_of w) b.bx (grown b.bx g) e ≡ false
      → ghosts_with (is_copy w e.head e.shift) b.bx g ≡ 0
  unfolding ghosts_with
  no_copy e k t =
      let there = image (frame_of w) e.head.bx e.shift in
      let o = Member-from_overlaps (scale w.region.frame w.width w.ratio w.ratio) (b ∷ []) w.level e k in
      tally_none (λ x. not (holds b.bx x) && is_copy w e.head e.shift x) (grown b.bx g) wide_box.order
      (λ x p s.
      let f = and_parts (not (holds b.bx x)) (is_inside (domain_of w) x && holds there x) s in
      let on = (and_parts (is_inside (domain_of w) x) (holds there x) f.1).1 in
      let off = not-true (holds b.bx x) f.0 in
      let alone = apart w h b g x m n p off e o.is_head o.is_shift on in
      false≢true (sym t ∙ and_not_from (meets there (grown b.bx g)) (meets there b.bx)
      (meets-from {a = there} {b = grown b.bx g} (Meet-cell {a = there} {b = grown b.bx g} {x = x} (Holds-test {b = there} {x = x} on) p)) alone))

  -- the coarse cells along an edge
  rest_within : AllWithin (grown b.bx g) (rest w g b)
  rest_within = holes_within (domain_of w) w.level (grown b.bx g) h.area wide_box h.level.not_empty

  coarse_sum : (e : Link) → Member e (downs_of w b)
      → sum_by (λ p. under_image (coarse_frame w) w.step e p) (rest w g b) ≡ ghosts_with (is_coarse w e.head e.shift) b.bx g
  unfolding ghosts_with
  coarse_sum e k =
      let o = Member-from_overlaps (scale w.region.frame w.reach w.ratio w.below) (b ∷ []) w.coarser e k in
      let there = image (coarse_frame w) e.head.bx e.shift in
      let order = AtMost-plus e.head.bx.lo e.head.bx.hi (times e.shift (coarse_frame w).size) (h.coarser.not_empty e.head o.is_head) in
      let under : IVec → Bool = λ x. holds there (coarse x w.step) in
      sum_same (λ p. under_image (coarse_frame w) w.step e p) (λ p. tally (λ x. holds p x && under x) (grown b.bx g)) (rest w g b)
      (λ p l.
      let within = rest_within p l in
      sym (tally_under (grown b.bx g) w.step p there h.step wide_box.order within.box.order order (λ x s. within_has (grown b.bx g) p x within s)))
      ∙ tally_pieces under (grown b.bx g) (rest w g b) (λ x. holes_once (domain_of w) h.area plain (grown b.bx g) x w.ranks w.level h.level)
      ∙ tally_same (λ x. held x (rest w g b) && under x) (λ x. not (holds b.bx x) && is_coarse w e.head e.shift x) (grown b.bx g) wide_box.order
      (λ x p.
      ap (λ (t : Bool). t && under x) (rest_is w h b g x m n p)
      ∙ coarse_alone (holds b.bx x) (is_inside (domain_of w) x) (in_level w x) (under x) (λ t. box_level x p t))

  coarse_count : (e : Link) → Member e (downs_of w b)
      → capped (sum_by (λ p. under_image (coarse_frame w) w.step e p) (rest w g b)) ≡ ghosts_with (is_coarse w e.head e.shift) b.bx g
  unfolding ghosts_with
  coarse_count e k = ap capped (coarse_sum e k) ∙ stops (λ x. not (holds b.bx x) && is_coarse w e.head e.shift x)

  -- some piece of the rest lies under the image of the edge's head
  is_asked : Link → Bool
  is_asked e = list_any (λ p. meets (coarsened p w.step) (image (coarse_frame w) e.head.bx e.shift)) (rest w g b)

  no_coarse : (e : Link) → Member e (downs_of w b) → is_asked e ≡ false → ghosts_with (is_coarse w e.head e.shift) b.bx g ≡ 0
  unfolding ghosts_with is_asked
  no_coarse e k none =
      let there = image (coarse_frame w) e.head.bx e.shift in
      let under : IVec → Bool = λ x. holds there (coarse x w.step) in
      tally_none (λ x. not (holds b.bx x) && is_coarse w e.head e.shift x) (grown b.bx g) wide_box.order
      (λ x p s.
      let both : (held x (rest w g b) && under x) ≡ true =
      ap (λ (t : Bool). t && under x) (rest_is w h b g x m n p)
      ∙ coarse_alone (holds b.bx x) (is_inside (domain_of w) x) (in_level w x) (under x) (λ t. box_level x p t) ∙ s in
      let f = and_parts (held x (rest w g b)) (under x) both in
      let r = member-held x (rest w g b) f.0 in
      false≢true (sym none
      ∙ any_is (λ p. meets (coarsened p w.step) there) (rest w g b) r.0 r.1
      (meets-from {a = coarsened r.0 w.step} {b = there}
      (Meet-cell {a = coarsened r.0 w.step} {b = there} {x = coarse x w.step} (Holds-coarse r.0 w.step x h.step r.2) (Holds-test {b = there} {x = coarse x w.step} f.1)))))

  edges_are : (field : ℕ) → asked_edges (asked w field g b) ≡ filter is_asked (downs_of w b)
  unfolding asked_edges asked asked_along is_asked
  edges_are field =
      let scaled = scale w.region.frame w.reach w.ratio w.below in
      let pieces = rest w g b in
      let along : Link → List Request = λ e. filter_map (λ p. asked_of (coarse_frame w) w.step field e p) pieces in
      let all = flat_map along (downs_of w b) in
      sym (in_order_is edge_total same_from_edge_cmp (map (λ q. q.edge) (asked w field g b)) (filter is_asked (downs_of w b))
      (IsStrictlySortedBy-filter edge_cmp is_asked (downs_of w b) (overlaps_sorted scaled (b ∷ []) w.coarser (one_sorted ref_cmp b) h.coarser.in_order))
      (λ z k.
      let f = Member-from_filter is_asked z (downs_of w b) k in
      let there = image (coarse_frame w) z.head.bx z.shift in
      let r = any_from (λ p. meets (coarsened p w.step) there) pieces f.1 in
      let c = common (coarsened r.0 w.step) there in
      let q : Request = request z field c in
      Member-map (λ (q : Request). q.edge) q (asked w field g b)
      (Member-in_order request_total same_from_request_cmp q all
      (Member-flat_map along q z (downs_of w b) f.0
      (Member-filter_map (λ p. asked_of (coarse_frame w) w.step field z p) q r.0 pieces r.1
      (ap (λ (t : Bool). option_map (λ v. request z field v) (cond t (Some c) None)) r.2)))))
      (λ z k.
      let o = Member-from_map (λ (q : Request). q.edge) z (asked w field g b) k in
      let i = Member-from_in_order request_total o.0 all o.1 in
      let l = Member-from_flat_map along o.0 (downs_of w b) i in
      let p = Member-from_filter_map (λ p. asked_of (coarse_frame w) w.step field l.0 p) o.0 pieces l.2 in
      let there = image (coarse_frame w) l.0.head.bx l.0.shift in
      let s = asked_edge (meets (coarsened p.0 w.step) there) l.0 field (common (coarsened p.0 w.step) there) o.0 p.2 in
      subst (λ (v : Link). Member v (filter is_asked (downs_of w b))) (sym (o.2 ∙ s.1))
      (Member-filter is_asked l.0 (downs_of w b) l.1 (any_is (λ p. meets (coarsened p w.step) there) pieces p.0 p.1 s.0))))

  -- the cells beyond the borders
  inside_sum : sum_by (λ p. cells_of p) (needed (domain_of w) (grown b.bx g)) ≡ tally (λ x. is_inside (domain_of w) x) (grown b.bx g)
  inside_sum =
      let wide = grown b.bx g in
      let parts = needed (domain_of w) wide in
      sum_same (λ p. cells_of p) (λ p. tally (λ x. holds p x && true) wide) parts
      (λ p l.
      let within = needed_within (domain_of w) h.area wide wide_box p l in
      sym (tally_part (λ x. holds p x && true) wide p wide_box.order within.box.order
      (λ x s. (within_has wide p x within s, and_one (holds p x) ∙ holds-from {b = p} {x = x} s))
      (λ x s t. Holds-test {b = p} {x = x} (sym (and_one (holds p x)) ∙ t))))
      ∙ tally_pieces (λ x. true) wide parts (λ x. needed_once (domain_of w) h.area plain wide x)
      ∙ tally_same (λ x. held x parts && true) (λ x. is_inside (domain_of w) x) wide wide_box.order
      (λ x p. and_one (held x parts) ∙ inside_is w h b g x m n p)

  outside_count : capped (cells_of (grown b.bx g)) - capped (sum_by (λ p. cells_of p) (needed (domain_of w) (grown b.bx g))) ≡ ghosts_with (is_beyond w) b.bx g
  unfolding ghosts_with
  outside_count =
      let wide = grown b.bx g in
      left_is (cells_of wide) (sum_by (λ p. cells_of p) (needed (domain_of w) wide)) (tally (λ x. is_inside (domain_of w) x) wide) (tally (λ x. is_beyond w x) wide)
      ((h.ghosts g n).room b m).1 inside_sum
      (tally_rest (λ x. is_inside (domain_of w) x) (λ x. is_beyond w x) wide wide_box.order (λ x. one_or (is_inside (domain_of w) x)))
      ∙ sym (tally_same (λ x. not (holds b.bx x) && is_beyond w x) (λ x. is_beyond w x) wide wide_box.order
      (λ x p. beyond_alone (holds b.bx x) (is_inside (domain_of w) x) (λ t. box_inside x t)))

  -- all rows of a field
  pub field_rows : (field : ℕ) → field_rows_by (frame_of w) (coarse_frame w) w.step b field (field_plan w b (field, g)) ≡ rows_of_box w b (field, g)
  unfolding field_rows_by rows_of_box copies
  field_rows field =
      let wide = grown b.bx g in
      let near : Link → Row = λ e. copy_by (frame_of w) field b wide e in
      let below : Link → Row = λ e. coarse_by (coarse_frame w) w.step field b (rest w g b) e in
      let beyond : Row = outside_by field b wide (needed (domain_of w) wide) in
      let has : Row → Bool = λ row. has_cells row in
      let meets_ghosts : Link → Bool = λ e. has_ghosts (frame_of w) b.bx wide e in
      filter_three has (map near (filter meets_ghosts (selves_of w b))) (map below (asked_edges (asked w field g b))) (beyond ∷ [])
      ∙ three
      (filter has (map near (filter meets_ghosts (selves_of w b)))) (filter has (map (copy_row w b (field, g)) (selves_of w b)))
      (filter has (map below (asked_edges (asked w field g b)))) (filter has (map (coarse_row w b (field, g)) (downs_of w b)))
      (filter has (beyond ∷ [])) (filter has (outside_row w b (field, g) ∷ []))
      (kept_same has meets_ghosts near (copy_row w b (field, g)) (selves_of w b)
      (λ e k t. ap (λ (c : ℕ). Copy field b e.head e.shift c) (copy_count e k t))
      (λ e k t. ap (λ (c : ℕ). not (nat_eq c 0)) (no_copy e k t)))
      (ap (λ (l : List Link). filter has (map below l)) (edges_are field)
      ∙ kept_same has is_asked below (coarse_row w b (field, g)) (downs_of w b)
      (λ e k t. ap (λ (c : ℕ). Coarse field b e.head e.shift c) (coarse_count e k))
      (λ e k t. ap (λ (c : ℕ). not (nat_eq c 0)) (no_coarse e k t)))
      (ap (λ (c : ℕ). filter has (Outside field b c ∷ [])) outside_count)
      ∙ sym (filter_three has (map (copy_row w b (field, g)) (selves_of w b)) (map (coarse_row w b (field, g)) (downs_of w b)) (outside_row w b (field, g) ∷ []))

module _ (w : Scheduling) (h : IsScheduling w) (r : ℕ) where
  box_rows : (b : Owned) → Member b (own r w.level)
      → box_rows_by (frame_of w) (coarse_frame w) w.step (box_plan w b) ≡ flat_map (λ f. rows_of_box w b f) (enumerate_from 0 w.ghosts)
  unfolding box_rows_by
  box_rows b m =
      let k = (own_facts w (can_plan w h) r b m).0 in
      numbered_again (λ p. field_rows_by (frame_of w) (coarse_frame w) w.step b p.0 p.1) (λ f. field_plan w b f) (λ f. rows_of_box w b f) 0 w.ghosts
      (λ p l. field_rows w h b p.1 k (numbered_member 0 w.ghosts p l) p.0)

  pub rows_are : rows_by (plan_of w r) ≡ rows_of w r
  unfolding rows_by rows_of box_plans
  rows_are =
      flat_map_map (λ b. box_rows_by (frame_of w) (coarse_frame w) w.step b) (λ b. box_plan w b)
      (λ b. flat_map (λ f. rows_of_box w b f) (enumerate_from 0 w.ghosts)) (own r w.level) (λ b m. box_rows b m)

  -- the boxes of the plan can be grown
  pub have_room : length w.ghosts < 2 ^ 8 → HaveRoom (plan_of w r).boxes
  unfolding box_plans
  have_room few =
      All-from_members HasRoom (box_plans w r)
      (λ v m.
      let o = Member-from_map (λ b. box_plan w b) v (own r w.level) m in
      let k = (own_facts w (can_plan w h) r o.0 o.1).0 in
      let fields = box_plan w o.0 in
      let count : length fields.fields ≡ length w.ghosts = length-map (enumerate_from 0 w.ghosts) (λ f. field_plan w o.0 f) ∙ length-enumerate_from 0 w.ghosts in
      let is : HasRoom fields = record {
        few = omega (arith, few, count);
        room = All-from_members (λ (p : FieldPlan). IsBox (grown o.0.bx p.width)) fields.fields
            (λ p l.
            let f = Member-from_map (λ f. field_plan w o.0 f) p (enumerate_from 0 w.ghosts) l in
            subst (λ (q : FieldPlan). IsBox (grown o.0.bx q.width)) (sym f.2) (wide_box w h o.0 f.0.1 k (numbered_member 0 w.ghosts f.0 f.1)));
      } in
      subst HasRoom (sym o.2) is)
