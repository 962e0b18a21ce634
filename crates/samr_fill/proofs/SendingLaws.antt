-- The parcels that a rank makes by its plan are those of the whole levels.
use Rattle.std.proofs.Common.{◌≡◌, ℕ, zero, suc, ◌+◌, ◌<◌, refl, sym, ap, ◌∙◌, subst, inl, inr, arith, length}
use Rattle.std.proofs.lemmas.Int.{ints, clamps}
use Rattle.std.proofs.lemmas.Bool.{cond-true, cond-false, false≢true}
use Rattle.std.proofs.lemmas.Option.{slice_get-get_or}
use Rattle.std.proofs.lemmas.Cmp.{eq_by_cmp_equiv}
use Rattle.std.specs.Ordering.{is_eq}
use Rattle.std.specs.Prelude.{pos, Bool, true, false, cond, List, [], ◌∷◌, ◌++◌, map, filter, Option, Some, None, nat_eq, slice_get, get_or}
use Rattle.std.specs.List.{flat_map, filter_map, cons_option, enumerate_from, find}
use Rattle.std.specs.Option.{option_map}
use Rattle.samr_box.specs.declared.vector.IVec.{IVec}
use Rattle.samr_box.specs.Vector.{AtMost, alike, times}
use Rattle.samr_box.specs.Corners.{Corners, Holds, met, meets, common, grown, IsBox}
use Rattle.samr_box.specs.Orders.{corner_cmp}
use Rattle.samr_box.specs.Ratios.{coarsened}
use Rattle.samr_box.specs.Space.{image}
use Rattle.samr_box.specs.Lists.{Member}
use Rattle.samr_box.proofs.Totals.{corner_total, same_corners, same_from_corner_cmp}
use Rattle.samr_box.proofs.Members.{Member-from_filter}
use Rattle.samr_box.proofs.CellSets.{Holds-common, Holds-lo, Holds-hi, order-common, Meet-test, coarse-AtMost}
use Rattle.samr_box.proofs.Vectors.{same_cell}
use Rattle.samr_nest.proofs.Subtracting.{met_some}
use Rattle.samr_nest.proofs.NestedBy.{holes_within}
use Rattle.samr_nest.proofs.Moved.{AtMost-plus, AtMost-grown}
use Rattle.samr_level.specs.Refs.{Owned, Link, turned}
use Rattle.samr_level.specs.Levels.{own}
use Rattle.samr_data.specs.Places.{moved_back}
use Rattle.samr_data.specs.Values.{listed}
use Rattle.samr_data.specs.Grids.{Grid, value_at, packed}
use Rattle.samr_data.proofs.Lists.{listed_same}
use Rattle.samr_ops.specs.declared.rules.Rules.{Rules}
use Rattle.samr_sched.specs.declared.plan.Request.{Request}
use Rattle.samr_sched.specs.declared.plan.BoxPlan.{BoxPlan}
use Rattle.samr_sched.specs.declared.plan.FieldPlan.{FieldPlan}
use Rattle.samr_sched.specs.declared.plan.Plan.{Plan}
use Rattle.samr_sched.specs.Ask.{Scheduling, IsGhost, domain_of, frame_of, coarse_frame}
use Rattle.samr_sched.specs.Plans.{copies, field_plan, box_plan, box_plans, requests, plan_of}
use Rattle.samr_data.specs.declared.parcel.Parcel.{Parcel}
use Rattle.samr_fill.specs.Fill.{Filling, IsFilling}
use Rattle.samr_fill.specs.FillParts.{HasValues, HasFields, HasPatches}
use Rattle.samr_fill.specs.FillRow.{copied_along, asked_region, answered, parcels}
use Rattle.samr_fill.specs.Sending.{for_some, then_some, parcel_of, copied_from, place_copies, field_copies, box_copies, all_copies, answer_of, is_box, answer_in, answer_from, parcels_from}
use Rattle.samr_fill.proofs.Numbered.{numbered_at, get_member, some_same, none_some, slice_get_map}
use Rattle.samr_fill.proofs.FieldTasks.{length_map, there_below}
use Rattle.samr_fill.proofs.Truths.{IsEdge, same_by, copy_edge, down_edge, own_box, in_own, region_in_head}
use Rattle.samr_fill.proofs.FillRowLaws.{IsRequested, from_requests}
use Rattle.samr_fill.proofs.Pieces.{order_moved}

-- lists made of numbered lists
flat_map_numbered : {X Y Z : Type 0} (mk : X → Y) (g : ℕ × Y → List Z) (h : X → List Z) (k : ℕ) (xs : List X)
    → ((i : ℕ) (x : X) → slice_get xs i ≡ Some x → g (k + i, mk x) ≡ h x) → flat_map g (enumerate_from k (map mk xs)) ≡ flat_map h xs
flat_map_numbered mk g h k [] each = refl
flat_map_numbered {X} {Y} {Z} mk g h k (x ∷ xs) each =
    ap (λ (l : List Z). l ++ flat_map g (enumerate_from (k + 1) (map mk xs)))
    (ap (λ (n : ℕ). g (n, mk x)) (none k) ∙ each 0 x refl)
    ∙ ap (λ (l : List Z). h x ++ l)
    (flat_map_numbered mk g h (k + 1) xs (λ i y e. ap (λ (n : ℕ). g (n, mk y)) (next k i) ∙ each (suc i) y e))
  where
    none : (k : ℕ) → k ≡ k + 0
    none k = omega arith

    next : (k i : ℕ) → k + 1 + i ≡ k + suc i
    next k i = omega arith

numbered_item : {X : Type 0} (k : ℕ) (xs : List X) (i : ℕ) (f : ℕ × X) → slice_get (enumerate_from k xs) i ≡ Some f → (f.0 ≡ k + i) × (slice_get xs i ≡ Some f.1)
numbered_item k [] i f e = absurd (none_some e)
numbered_item {X} k (x ∷ xs) zero f e = (ap (λ (p : ℕ × X). p.0) (some_same (sym e)) ∙ none k, ap (λ (p : ℕ × X). Some p.1) (some_same e))
  where
    none : (k : ℕ) → k ≡ k + 0
    none k = omega arith
numbered_item k (x ∷ xs) (suc i) f e =
    let r = numbered_item (k + 1) xs i f e in
    let n = r.0 in
    (omega (arith, n), r.1)

filter_map_same : {X Y : Type 0} (f g : X → Option Y) (xs : List X) → ((x : X) → Member x xs → f x ≡ g x) → filter_map f xs ≡ filter_map g xs
filter_map_same f g [] each = refl
filter_map_same {X} {Y} f g (x ∷ xs) each =
    ap (λ (o : Option Y). cons_option o (filter_map f xs)) (each x (inl refl))
    ∙ ap (λ (l : List Y). cons_option (g x) l) (filter_map_same f g xs (λ y m. each y (inr m)))

-- a test before a map that may give nothing
filter_map_cond : {X Y : Type 0} (t : X → Bool) (h : X → Option Y) (xs : List X) → filter_map (λ x. cond (t x) (h x) None) xs ≡ filter_map h (filter t xs)
filter_map_cond t h [] = refl
filter_map_cond {X} {Y} t h (x ∷ xs) = by_case (t x) (filter_map_cond t h xs)
  where
    by_case : (b : Bool) → filter_map (λ x. cond (t x) (h x) None) xs ≡ filter_map h (filter t xs)
        → cons_option (cond b (h x) None) (filter_map (λ x. cond (t x) (h x) None) xs) ≡ filter_map h (cond b (x ∷ filter t xs) (filter t xs))
    by_case true e = ap (λ (l : List Y). cons_option (h x) l) e
    by_case false e = e

filter_map_all : {X Y : Type 0} (h : X → Option Y) (f : X → Y) (xs : List X) → ((x : X) → Member x xs → h x ≡ Some (f x)) → filter_map h xs ≡ map f xs
filter_map_all h f [] each = refl
filter_map_all {X} {Y} h f (x ∷ xs) each =
    ap (λ (o : Option Y). cons_option o (filter_map h xs)) (each x (inl refl))
    ∙ ap (λ (l : List Y). f x ∷ l) (filter_map_all h f xs (λ y m. each y (inr m)))

-- a patch with the values of a box gives the same parcels
option_map_same : {X Y : Type 0} (f g : X → Y) (o : Option X) → ((x : X) → o ≡ Some x → f x ≡ g x) → option_map f o ≡ option_map g o
option_map_same f g None each = refl
option_map_same f g (Some x) each = ap (λ v. Some v) (each x refl)

same_values : (p : Grid) (base c : Corners) (values : IVec → ℕ) → AtMost c.lo c.hi → ((x : IVec) → Holds base x → value_at p x ≡ values x)
    → ((x : IVec) → Holds c x → Holds base x) → packed p c ≡ listed c values
same_values p base c values order are inside = listed_same c (value_at p) values order (λ x h. are x (inside x h))

part_cells : (a b c : Corners) → AtMost a.lo a.hi → AtMost b.lo b.hi → met a b ≡ Some c → AtMost c.lo c.hi × ((x : IVec) → Holds c x → Holds a x)
part_cells a b c p q e = by_case (meets a b) refl e
  where
    by_case : (t : Bool) → meets a b ≡ t → cond t (Some (common a b)) None ≡ Some c → AtMost c.lo c.hi × ((x : IVec) → Holds c x → Holds a x)
    by_case true t e =
        let same : common a b ≡ c = some_same e in (
          subst (λ (v : Corners). AtMost v.lo v.hi) same (order-common {a = a} {b = b} p q (Meet-test {a = a} {b = b} t)),
          λ x h. ((Holds-common a b x).0 (subst (λ (v : Corners). Holds v x) (sym same) h)).0,
        )
    by_case false t e = absurd (none_some e)

module _ (w : Filling) (is : IsFilling w) (from to : ℕ) (patches : List (List Grid)) (has : HasValues w.values (own from w.schedule.level) patches)
    (fields : length patches ≡ length w.rules)
    (widths : (f place : ℕ) (field : List Grid) (p : Grid) (g : IVec) → slice_get patches f ≡ Some field → slice_get field place ≡ Some p
    → slice_get w.schedule.ghosts f ≡ Some g → p.width ≡ g) where
  along : ℕ × IVec → Link → Option Parcel
  along f e = copied_along w f.0 f.1 e

  -- an edge
  edge_same : (n place : ℕ) (g : IVec) (p : Grid) (b : Owned) (e : Link) → IsGhost w.schedule g → Member b w.schedule.level → p.bx ≡ b.bx → p.width ≡ g
      → ((x : IVec) → Holds b.bx x → value_at p x ≡ w.values n x) → IsEdge w.schedule b w.schedule.level e
      → option_map (λ c. parcel_of e false n p c) (met p.bx (grown (image (frame_of w.schedule) e.head.bx e.shift) p.width)) ≡ copied_along w n g e
  edge_same n place g p b e ghost mb bx width values edge =
      let s = w.schedule in
      let d = frame_of s in
      let there = image d e.head.bx e.shift in
      let base : p.bx ≡ e.base.bx = bx ∙ ap (λ (o : Owned). o.bx) (sym edge.base) in
      let order = subst (λ (c : Corners). AtMost c.lo c.hi) (ap (λ (o : Owned). o.bx) (sym edge.base)) (is.schedule.level.not_empty b mb) in
      let wide = AtMost-grown there.lo there.hi g ghost.low (AtMost-plus e.head.bx.lo e.head.bx.hi (times e.shift d.size) (is.schedule.level.not_empty e.head edge.head)) in
      ap (λ (c : Corners). option_map (λ c. parcel_of e false n p c) (met c (grown there p.width))) base
      ∙ ap (λ (v : IVec). option_map (λ c. parcel_of e false n p c) (met e.base.bx (grown there v))) width
      ∙ option_map_same (λ c. parcel_of e false n p c)
      (λ c. let q : Parcel = record { edge = e; is_coarse = false; field = n; region = c; values = listed c (w.values n) } in q)
      (met e.base.bx (grown there g))
      (λ c m.
      let part = part_cells e.base.bx (grown there g) c order wide m in
      ap (λ (vs : List ℕ). let q : Parcel = record { edge = e; is_coarse = false; field = n; region = c; values = vs } in q)
      (same_values p e.base.bx c (w.values n) part.0
      (λ x h. values x (subst (λ (v : Corners). Holds v x) (ap (λ (o : Owned). o.bx) edge.base) h)) part.1))

  -- a field of a box
  field_same : (place : ℕ) (b : Owned) → slice_get (own from w.schedule.level) place ≡ Some b → Member b w.schedule.level → (i : ℕ) (f : ℕ × IVec)
      → slice_get (enumerate_from 0 w.schedule.ghosts) i ≡ Some f
      → field_copies (frame_of w.schedule) to patches place (0 + i) (copies w.schedule f.1 b)
      ≡ filter_map (λ e. copied_along w f.0 f.1 e) (filter (λ e. nat_eq e.head.owner to) (copies w.schedule f.1 b))
  field_same place b at mb i f fe =
      let s = w.schedule in
      let d = frame_of s in
      let item = numbered_item 0 s.ghosts i f fe in
      let ghost = is.schedule.ghosts f.1 (get_member s.ghosts i f.1 item.1) in
      let there = field_there i f.1 item.1 in
      let field = there.0 in
      let p = patch_there i field place b there.1 at in
      let facts = has.patch i place field p.0 there.1 p.1 in
      let bx_of : facts.0 ≡ b = some_same (sym facts.1 ∙ at) in
      let bx : p.0.bx ≡ b.bx = facts.2 ∙ ap (λ (o : Owned). o.bx) bx_of in
      let number : 0 + i ≡ i = zero_plus i in
      let edges = copies s f.1 b in
      ap (λ (n : ℕ). field_copies d to patches place n edges) number
      ∙ ap (λ o. for_some o (λ ps. place_copies d to i ps place edges)) there.1
      ∙ ap (λ o. for_some o (λ p. filter_map (λ e. copied_from d to i p e) edges)) p.1
      ∙ filter_map_cond (λ (e : Link). nat_eq e.head.owner to)
      (λ e. option_map (λ c. parcel_of e false i p.0 c) (met p.0.bx (grown (image d e.head.bx e.shift) p.0.width))) edges
      ∙ filter_map_same (λ e. option_map (λ c. parcel_of e false i p.0 c) (met p.0.bx (grown (image d e.head.bx e.shift) p.0.width))) (λ e. copied_along w f.0 f.1 e)
      (filter (λ e. nat_eq e.head.owner to) edges)
      (λ e m.
      edge_same i place f.1 p.0 b e ghost mb bx (widths i place field p.0 f.1 there.1 p.1 item.1)
      (λ x h. facts.3 x (subst (λ (o : Owned). Holds o.bx x) (sym bx_of) h)) (copy_edge s f.1 b e (Member-from_filter (λ (e : Link). nat_eq e.head.owner to) e edges m).0)
      ∙ ap (λ (n : ℕ). copied_along w n f.1 e) (sym (item.0 ∙ number)))
    where
      zero_plus : (k : ℕ) → 0 + k ≡ k
      zero_plus k = omega arith

      field_there : (i : ℕ) (g : IVec) → slice_get w.schedule.ghosts i ≡ Some g → (field : List Grid) × (slice_get patches i ≡ Some field)
      field_there i g e =
          let below = there_below w.schedule.ghosts i g e in
          let a : length w.schedule.ghosts ≡ length w.rules = ap (λ (l : List IVec). length l) (sym is.widths) ∙ length_map (λ (r : Rules). r.width) w.rules in
          (get_or patches i [], slice_get-get_or patches i [] (omega (arith, below, a, fields)))

      patch_there : (i : ℕ) (field : List Grid) (place : ℕ) (b : Owned) → slice_get patches i ≡ Some field → slice_get (own from w.schedule.level) place ≡ Some b
          → (p : Grid) × (slice_get field place ≡ Some p)
      patch_there i field place b e at =
          let below = there_below (own from w.schedule.level) place b at in
          let full = has.full i field e in
          let none : Grid = record { bx = b.bx; width = alike (pos 0); values = [] } in
          (get_or field place none, slice_get-get_or field place none (omega (arith, below, full)))

  -- all boxes
  pub copies_same : (boxes : List BoxPlan) → boxes ≡ box_plans w.schedule from
      → all_copies (frame_of w.schedule) to patches boxes
      ≡ flat_map (λ b. flat_map (λ f. filter_map (λ e. copied_along w f.0 f.1 e) (filter (λ e. nat_eq e.head.owner to) (copies w.schedule f.1 b))) (enumerate_from 0 w.schedule.ghosts))
      (own from w.schedule.level)
  unfolding all_copies box_copies box_plans
  copies_same boxes e =
      let s = w.schedule in
      let d = frame_of s in
      let level = own from s.level in
      let by_field : Owned → ℕ × IVec → List Parcel = λ b f. filter_map (λ e. copied_along w f.0 f.1 e) (filter (λ e. nat_eq e.head.owner to) (copies s f.1 b)) in
      ap (all_copies d to patches) e
      ∙ flat_map_numbered (λ b. box_plan s b) (λ b. box_copies d to patches b.0 b.1) (λ b. flat_map (λ f. by_field b f) (enumerate_from 0 s.ghosts)) 0 level
      (λ place b at.
      let mb = (own_box from s.level b (get_member level place b at)).0 in
      flat_map_numbered (λ f. field_plan s b f) (λ f. field_copies d to patches (0 + place) f.0 f.1.copies) (λ f. by_field b f) 0 (enumerate_from 0 s.ghosts)
      (λ i f fe.
      ap (λ (k : ℕ). field_copies d to patches k (0 + i) (copies s f.1 b)) (zero_plus place)
      ∙ field_same place b at mb i f fe))
    where
      zero_plus : (k : ℕ) → 0 + k ≡ k
      zero_plus k = omega arith

-- the first member that passes a test
found : {X : Type 0} (p : X → Bool) (x : X) (xs : List X) → Member x xs → p x ≡ true → (y : X) × (find p xs ≡ Some y) × (p y ≡ true) × Member y xs
found p x [] m t = absurd m
found {X} p x (y ∷ ys) m t = by_case (p y) refl (λ later. found p x ys later t)
  where
    earlier : (p y ≡ false) → Member x ys
    earlier f = elim m [
      | inl e ↦ absurd (false≢true (sym f ∙ ap p (sym e) ∙ t))
      | inr later ↦ later
    ]

    by_case : (b : Bool) → p y ≡ b → (Member x ys → (z : X) × (find p ys ≡ Some z) × (p z ≡ true) × Member z ys)
        → (z : X) × (cond b (Some y) (find p ys) ≡ Some z) × (p z ≡ true) × Member z (y ∷ ys)
    by_case true e rest = (y, refl, e, inl refl)
    by_case false e rest = let r = rest (earlier e) in (r.0, r.1, r.2, inr r.3)

member_place : {X : Type 0} (x : X) (xs : List X) → Member x xs → (i : ℕ) × (slice_get xs i ≡ Some x)
member_place x [] m = absurd m
member_place x (y ∷ ys) (inl e) = (0, ap (λ v. Some v) (sym e))
member_place x (y ∷ ys) (inr m) = let r = member_place x ys m in (suc r.0, r.1)

met_part : (a c : Corners) → AtMost c.lo c.hi → ((x : IVec) → Holds c x → Holds a x) → met a c ≡ Some c
met_part a c order inside =
    let lo = inside c.lo (Holds-lo order) in
    let hi = inside c.hi (Holds-hi order) in
    let same : common a c ≡ c =
    same_corners
    (same_cell (omega (arith, ints, clamps, lo.low.k)) (omega (arith, ints, clamps, lo.low.j)) (omega (arith, ints, clamps, lo.low.i)))
    (same_cell (omega (arith, ints, clamps, hi.high.k)) (omega (arith, ints, clamps, hi.high.j)) (omega (arith, ints, clamps, hi.high.i))) in
    met_some a c c.lo lo (Holds-lo order) ∙ ap (λ (v : Corners). Some v) same

same_box : (b : Corners) (p : Grid) → is_box b p ≡ true → p.bx ≡ b
same_box b p t = same_from_corner_cmp p.bx b (same_by (corner_cmp p.bx b) t)

box_same : (b : Corners) (p : Grid) → p.bx ≡ b → is_box b p ≡ true
box_same b p e = ap (λ (c : Corners). is_eq (corner_cmp c b)) e ∙ (eq_by_cmp_equiv corner_total).refl b

-- the answers
module _ (w : Filling) (is : IsFilling w) (from to : ℕ) (coarser : List (List Grid)) (has : HasValues w.coarse_values (own from w.schedule.coarser) coarser)
    (fields : HasFields w coarser) where
  -- the region is not empty
  region_order : (q : Request) → IsRequested w.schedule to from q → AtMost (asked_region w.schedule q).lo (asked_region w.schedule q).hi
  region_order q k =
      let s = w.schedule in
      let d = coarse_frame s in
      let item = numbered_at 0 s.ghosts k.field k.its_field in
      let ghost = is.schedule.ghosts k.field.1 (get_member s.ghosts item.0 k.field.1 item.2) in
      let mb = (own_box to s.level k.base k.own_base).0 in
      let G = grown k.base.bx k.field.1 in
      let piece = (holes_within (domain_of s) s.level G is.schedule.area (ghost.room k.base mb).0 is.schedule.level.not_empty k.piece k.its_piece).box.order in
      let edge = down_edge s k.base k.edge k.its_edge in
      let there = AtMost-plus k.edge.head.bx.lo k.edge.head.bx.hi (times k.edge.shift d.size) (is.schedule.coarser.not_empty k.edge.head edge.head) in
      let part = part_cells (coarsened k.piece s.step) (image d k.edge.head.bx k.edge.shift) k.region (coarse-AtMost is.schedule.step piece) there k.its_region in
      let order : AtMost q.bx.lo q.bx.hi = subst (λ (v : Request). AtMost v.bx.lo v.bx.hi) (sym k.is) part.0 in
      order_moved q.bx (times q.edge.shift d.size) order

  pub answer_same : (q : Request) → Member q (requests w.schedule to from) → answer_from (coarse_frame w.schedule) coarser q ≡ Some (answered w q)
  unfolding answer_from
  answer_same q m =
      let s = w.schedule in
      let d = coarse_frame s in
      let k = from_requests s to from q m in
      let edge = down_edge s k.base k.edge k.its_edge in
      let edge_of : q.edge ≡ k.edge = ap (λ (v : Request). v.edge) k.is in
      let head = q.edge.head in
      let head_of : Member head s.coarser = subst (λ (e : Link). Member e.head s.coarser) (sym edge_of) edge.head in
      let owner : head.owner ≡ from = ap (λ (e : Link). e.head.owner) edge_of ∙ k.its_head in
      let place = member_place head (own from s.coarser) (in_own from s.coarser head head_of owner) in
      let item = numbered_at 0 s.ghosts k.field k.its_field in
      let number : q.field ≡ item.0 = ap (λ (v : Request). v.field) k.is ∙ item.1 ∙ zero_plus item.0 in
      let count : length coarser ≡ length w.rules = elim fields [ inl none ↦ absurd (subst (λ (l : List Owned). Member head l) none.0 head_of) | inr full ↦ full ] in
      let field = field_there count q.field item.0 number k.field.1 item.2 in
      let p = patch_there q.field field.0 place.0 head field.1 place.1 in
      let at_p = has.patch q.field place.0 field.0 p.0 field.1 p.1 in
      let same_head : at_p.0 ≡ head = some_same (sym at_p.1 ∙ place.1) in
      let first = found (λ (v : Grid). is_box head.bx v) p.0 field.0 (get_member field.0 place.0 p.0 p.1)
      (box_same head.bx p.0 (at_p.2 ∙ ap (λ (o : Owned). o.bx) same_head)) in
      let y = first.0 in
      let bx : y.bx ≡ head.bx = same_box head.bx y first.2 in
      let where_y = member_place y field.0 first.3 in
      let at_y = has.patch q.field where_y.0 field.0 y field.1 where_y.1 in
      let region = asked_region s q in
      let inside : (z : IVec) → Holds region z → Holds head.bx z = λ z h. region_in_head s to from q k z h in
      let order = region_order q k in
      let values : packed y region ≡ listed region (w.coarse_values q.field) =
      same_values y head.bx region (w.coarse_values q.field) order
      (λ z h. at_y.3 z (subst (λ (c : Corners). Holds c z) (sym bx ∙ at_y.2) h)) inside in
      ap (λ o. then_some o (λ patches. answer_in d q patches)) field.1
      ∙ ap (λ o. then_some o (λ v. answer_of d q v)) first.1
      ∙ ap (option_map (λ c. parcel_of (turned q.edge) true q.field y c)) (ap (λ (c : Corners). met c region) bx ∙ met_part head.bx region order inside)
      ∙ ap (λ (vs : List ℕ). let v : Parcel = record { edge = turned q.edge; is_coarse = true; field = q.field; region = region; values = vs } in Some v) values
    where
      zero_plus : (k : ℕ) → 0 + k ≡ k
      zero_plus k = omega arith

      field_there : length coarser ≡ length w.rules → (n i : ℕ) → n ≡ i → (g : IVec) → slice_get w.schedule.ghosts i ≡ Some g → (field : List Grid) × (slice_get coarser n ≡ Some field)
      field_there count n i same g e =
          let below = there_below w.schedule.ghosts i g e in
          let a : length w.schedule.ghosts ≡ length w.rules = ap (λ (l : List IVec). length l) (sym is.widths) ∙ length_map (λ (r : Rules). r.width) w.rules in
          (get_or coarser n [], slice_get-get_or coarser n [] (omega (arith, below, a, count, same)))

      patch_there : (n : ℕ) (field : List Grid) (place : ℕ) (b : Owned) → slice_get coarser n ≡ Some field → slice_get (own from w.schedule.coarser) place ≡ Some b
          → (p : Grid) × (slice_get field place ≡ Some p)
      patch_there n field place b e at =
          let below = there_below (own from w.schedule.coarser) place b at in
          let full = has.full n field e in
          let none : Grid = record { bx = b.bx; width = alike (pos 0); values = [] } in
          (get_or field place none, slice_get-get_or field place none (omega (arith, below, full)))

  pub answers_same : filter_map (λ q. answer_from (coarse_frame w.schedule) coarser q) (requests w.schedule to from) ≡ map (λ q. answered w q) (requests w.schedule to from)
  answers_same = filter_map_all (λ q. answer_from (coarse_frame w.schedule) coarser q) (λ q. answered w q) (requests w.schedule to from) answer_same
