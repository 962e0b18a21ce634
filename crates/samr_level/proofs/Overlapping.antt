-- True overlaps: membership as a record, edge order, the connector of a rank, and overlaps seen from their heads.
use Rattle.std.proofs.Common.{◌≡◌, ℕ, refl, sym, ap, subst, ◌∙◌, inl, inr, arith}
use Rattle.std.proofs.lemmas.Int.{ints, clamps}
use Rattle.std.proofs.lemmas.List.Kept.{IsStrictlySortedBy-filter}
use Rattle.std.proofs.lemmas.Bool.Decides.{nat_tests}
use Rattle.std.proofs.lemmas.Cmp.{tied_itself, int_cmp_total}
use Rattle.std.specs.Prelude.{Bool, true, false, List, map, nat_eq, ℤ, pos, negsuc, neg_ℤ, ◌*ℤ◌, ◌≤ℤ◌, ◌↔◌}
use Rattle.std.specs.List.{flat_map}
use Rattle.std.specs.List.Sorted.{IsStrictlySortedBy}
use Rattle.std.specs.Ordering.{int_cmp, ordering_then}
use Rattle.std.specs.declared.cmp.Ordering.{Ordering}
use Rattle.std.specs.declared.cmp.Ordering.TheVariants.{Less, Equal, Greater}
use Rattle.samr_box.specs.declared.vector.IVec.{IVec}
use Rattle.samr_box.specs.declared.space.Flags.{Flags}
use Rattle.samr_box.specs.Vector.{alike, times, greatest, IsShift}
use Rattle.samr_box.specs.Corners.{Corners, grown}
use Rattle.samr_box.specs.Orders.{cell_cmp}
use Rattle.samr_box.specs.Ratios.{coarse, refined}
use Rattle.samr_box.specs.Space.{Space, opposite, image, finer}
use Rattle.samr_box.specs.Lists.{Member}
use Rattle.samr_box.proofs.Members.{Member-map, Member-from_map, Member-flat_map, Member-from_flat_map, Member-filter, Member-from_filter}
use Rattle.samr_box.proofs.Ascending.{sorted-map, sorted-flat_map, same_from_members}
use Rattle.samr_box.proofs.Products.{mul-neg, mul_comm, mul_assoc}
use Rattle.samr_box.proofs.Vectors.{same_cell}
use Rattle.samr_box.proofs.CellSets.{meets-from, Meet-test}
use Rattle.samr_level.specs.Refs.{Owned, Link, link, turned}
use Rattle.samr_level.specs.RefOrders.{ref_cmp, edge_cmp}
use Rattle.samr_level.specs.Overlaps.{Scale, scale, near, is_true, steps, shifts, all_links, true_overlaps, of_rank, IsTrueOverlap}
use Rattle.samr_level.proofs.RefLaws.{ref_total, edge_total, same_link}

-- members of the shifts
Member-steps : (p : Bool) (z : ℤ) → Member z (steps p) → (negsuc 0 ≤ℤ z) × (z ≤ℤ pos 1) × Member (neg_ℤ z) (steps p)
Member-steps true z (inl e) = (omega (arith, ints, e), omega (arith, ints, e), inr (inr (inl (omega (arith, ints, e)))))
Member-steps true z (inr (inl e)) = (omega (arith, ints, e), omega (arith, ints, e), inr (inl (omega (arith, ints, e))))
Member-steps true z (inr (inr (inl e))) = (omega (arith, ints, e), omega (arith, ints, e), inl (omega (arith, ints, e)))
Member-steps true z (inr (inr (inr m))) = absurd m
Member-steps false z (inl e) = (omega (arith, ints, e), omega (arith, ints, e), inl (omega (arith, ints, e)))
Member-steps false z (inr m) = absurd m

zero_step : (p : Bool) → Member (pos 0) (steps p)
zero_step true = inr (inl refl)
zero_step false = inl refl

pub Member-shifts : (f : Flags) (s : IVec) → Member s.k (steps f.k) → Member s.j (steps f.j) → Member s.i (steps f.i) → Member s (shifts f)
unfolding shifts
Member-shifts f s k j i =
    Member-flat_map (λ k. flat_map (λ j. map (λ i. let v : IVec = record { k = k; j = j; i = i } in v) (steps f.i)) (steps f.j)) s s.k (steps f.k) k
    (Member-flat_map (λ j. map (λ i. let v : IVec = record { k = s.k; j = j; i = i } in v) (steps f.i)) s s.j (steps f.j) j
    (Member-map (λ i. let v : IVec = record { k = s.k; j = s.j; i = i } in v) s.i (steps f.i) i))

pub Member-from_shifts : (f : Flags) (s : IVec) → Member s (shifts f) → Member s.k (steps f.k) × Member s.j (steps f.j) × Member s.i (steps f.i)
unfolding shifts
Member-from_shifts f s m =
    let a = Member-from_flat_map (λ k. flat_map (λ j. map (λ i. let v : IVec = record { k = k; j = j; i = i } in v) (steps f.i)) (steps f.j)) s (steps f.k) m in
    let b = Member-from_flat_map (λ j. map (λ i. let v : IVec = record { k = a.0; j = j; i = i } in v) (steps f.i)) s (steps f.j) a.2 in
    let c = Member-from_map (λ i. let v : IVec = record { k = a.0; j = b.0; i = i } in v) s (steps f.i) b.2 in (
      subst (λ (v : IVec). Member v.k (steps f.k)) (sym c.2) a.1,
      subst (λ (v : IVec). Member v.j (steps f.j)) (sym c.2) b.1,
      subst (λ (v : IVec). Member v.i (steps f.i)) (sym c.2) c.1,
    )

pub IsShift-member : (f : Flags) (s : IVec) → Member s (shifts f) → IsShift s
IsShift-member f s m =
    let h = Member-from_shifts f s m in
    let k = Member-steps f.k s.k h.0 in
    let j = Member-steps f.j s.j h.1 in
    let i = Member-steps f.i s.i h.2 in
    record { low = record { k = k.0; j = j.0; i = i.0 }; high = record { k = k.1; j = j.1; i = i.1 } }

pub opposite-shifts : (f : Flags) (s : IVec) → Member s (shifts f) → Member (opposite s) (shifts f)
opposite-shifts f s m =
    let h = Member-from_shifts f s m in
    Member-shifts f (opposite s) (Member-steps f.k s.k h.0).2 (Member-steps f.j s.j h.1).2 (Member-steps f.i s.i h.2).2

pub zero_shift : (f : Flags) → Member (alike (pos 0)) (shifts f)
zero_shift f = Member-shifts f (alike (pos 0)) (zero_step f.k) (zero_step f.j) (zero_step f.i)

-- the shifts ascend
steps_sorted : (p : Bool) → IsStrictlySortedBy int_cmp (steps p)
unfolding IsStrictlySortedBy
steps_sorted true = ((refl, (refl, tt)), ((refl, tt), (tt, tt)))
steps_sorted false = (tt, tt)

then_less : (o p : Ordering) → o ≡ Less → ordering_then o p ≡ Less
then_less Less p e = refl
then_less Equal p e = absurd (differ e)
  where
    differ : Equal ≡ Less → ⊥
    differ e = cc
then_less Greater p e = absurd (differ e)
  where
    differ : Greater ≡ Less → ⊥
    differ e = cc

then_equal : (o p : Ordering) → o ≡ Equal → p ≡ Less → ordering_then o p ≡ Less
then_equal Equal p e f = f
then_equal Less p e f = absurd (differ e)
  where
    differ : Less ≡ Equal → ⊥
    differ e = cc
then_equal Greater p e f = absurd (differ e)
  where
    differ : Greater ≡ Equal → ⊥
    differ e = cc

-- two cells that differ on the first axis, the second, the third
cell_less_i : (k j i i' : ℤ) → int_cmp i i' ≡ Less → cell_cmp (record { k = k; j = j; i = i }) (record { k = k; j = j; i = i' }) ≡ Less
cell_less_i k j i i' e =
    then_equal (int_cmp k k) (ordering_then (int_cmp j j) (int_cmp i i')) (tied_itself int_cmp_total k)
    (then_equal (int_cmp j j) (int_cmp i i') (tied_itself int_cmp_total j) e)

cell_less_j : (k : ℤ) (x y : IVec) → x.k ≡ k → y.k ≡ k → int_cmp x.j y.j ≡ Less → cell_cmp x y ≡ Less
cell_less_j k x y p q e =
    then_equal (int_cmp x.k y.k) (ordering_then (int_cmp x.j y.j) (int_cmp x.i y.i))
    (ap (λ (v : ℤ). int_cmp v y.k) p ∙ ap (λ (v : ℤ). int_cmp k v) q ∙ tied_itself int_cmp_total k)
    (then_less (int_cmp x.j y.j) (int_cmp x.i y.i) e)

less_at : (x y x' y' : ℤ) → x' ≡ x → y' ≡ y → int_cmp x y ≡ Less → int_cmp x' y' ≡ Less
less_at x y x' y' p q e = ap (λ (v : ℤ). int_cmp v y') p ∙ ap (λ (v : ℤ). int_cmp x v) q ∙ e

shift_row : Flags → ℤ → ℤ → List IVec
shift_row f k j = map (λ i. let v : IVec = record { k = k; j = j; i = i } in v) (steps f.i)

shift_plane : Flags → ℤ → List IVec
shift_plane f k = flat_map (λ j. map (λ i. let v : IVec = record { k = k; j = j; i = i } in v) (steps f.i)) (steps f.j)

in_row : (f : Flags) (k j : ℤ) (v : IVec) → Member v (shift_row f k j) → (v.k ≡ k) × (v.j ≡ j)
unfolding shift_row
in_row f k j v m =
    let r = Member-from_map (λ i. let v : IVec = record { k = k; j = j; i = i } in v) v (steps f.i) m in
    (ap (λ (u : IVec). u.k) r.2, ap (λ (u : IVec). u.j) r.2)

in_plane : (f : Flags) (k : ℤ) (v : IVec) → Member v (shift_plane f k) → v.k ≡ k
unfolding shift_plane shift_row
in_plane f k v m =
    let r = Member-from_flat_map (λ j. map (λ i. let v : IVec = record { k = k; j = j; i = i } in v) (steps f.i)) v (steps f.j) m in
    (in_row f k r.0 v r.2).0

row_sorted : (f : Flags) (k j : ℤ) → IsStrictlySortedBy cell_cmp (shift_row f k j)
unfolding shift_row
row_sorted f k j = sorted-map int_cmp cell_cmp (λ i. let v : IVec = record { k = k; j = j; i = i } in v) (steps f.i) (λ i i' e. cell_less_i k j i i' e) (steps_sorted f.i)

plane_sorted : (f : Flags) (k : ℤ) → IsStrictlySortedBy cell_cmp (shift_plane f k)
unfolding shift_plane shift_row
plane_sorted f k =
    sorted-flat_map int_cmp cell_cmp (λ j. map (λ i. let v : IVec = record { k = k; j = j; i = i } in v) (steps f.i)) (steps f.j)
    (λ j. row_sorted f k j)
    (λ j j' y y' e m m'. let p = in_row f k j y m in let q = in_row f k j' y' m' in
    cell_less_j k y y' p.0 q.0 (less_at j j' y.j y'.j p.1 q.1 e))
    (steps_sorted f.j)

pub shifts_sorted : (f : Flags) → IsStrictlySortedBy cell_cmp (shifts f)
unfolding shifts shift_plane
shifts_sorted f =
    sorted-flat_map int_cmp cell_cmp (λ k. flat_map (λ j. map (λ i. let v : IVec = record { k = k; j = j; i = i } in v) (steps f.i)) (steps f.j)) (steps f.k)
    (λ k. plane_sorted f k)
    (λ k k' y y' e m m'. let p = in_plane f k y m in let q = in_plane f k' y' m' in
    then_less (int_cmp y.k y'.k) (ordering_then (int_cmp y.j y'.j) (int_cmp y.i y'.i)) (less_at k k' y.k y'.k p q e))
    (steps_sorted f.k)

-- members of all edges
pub Member-all_links : (bases heads : List Owned) (ss : List IVec) (e : Link) → Member e.base bases → Member e.head heads → Member e.shift ss
    → Member e (all_links bases heads ss)
Member-all_links bases heads ss e a b s =
    Member-flat_map (λ a. flat_map (λ b. map (λ s. link a b s) ss) heads) e e.base bases a
    (Member-flat_map (λ b. map (λ s. link e.base b s) ss) e e.head heads b
    (Member-map (λ s. link e.base e.head s) e.shift ss s))

links_of : (a : Owned) (heads : List Owned) (ss : List IVec) (e : Link) → Member e (flat_map (λ b. map (λ s. link a b s) ss) heads)
    → (b : Owned) × (s : IVec) × Member b heads × Member s ss × (e ≡ link a b s)
links_of a heads ss e m =
    let r = Member-from_flat_map (λ b. map (λ s. link a b s) ss) e heads m in
    let q = Member-from_map (λ s. link a r.0 s) e ss r.2 in
    (r.0, q.0, r.1, q.1, q.2)

pub Member-from_all_links : (bases heads : List Owned) (ss : List IVec) (e : Link) → Member e (all_links bases heads ss)
    → Member e.base bases × Member e.head heads × Member e.shift ss
Member-from_all_links bases heads ss e m =
    let r = Member-from_flat_map (λ a. flat_map (λ b. map (λ s. link a b s) ss) heads) e bases m in
    let q = links_of r.0 heads ss e r.2 in (
      subst (λ (v : Link). Member v.base bases) (sym q.4) r.1,
      subst (λ (v : Link). Member v.head heads) (sym q.4) q.2,
      subst (λ (v : Link). Member v.shift ss) (sym q.4) q.3,
    )

-- they are in edge order
base_less : (x y : Link) → ref_cmp x.base y.base ≡ Less → edge_cmp x y ≡ Less
base_less x y e = then_less (ref_cmp x.base y.base) (ordering_then (ref_cmp x.head y.head) (cell_cmp x.shift y.shift)) e

head_less : (a b b' : Owned) (s s' : IVec) → ref_cmp b b' ≡ Less → edge_cmp (link a b s) (link a b' s') ≡ Less
head_less a b b' s s' e =
    then_equal (ref_cmp a a) (ordering_then (ref_cmp b b') (cell_cmp s s')) (tied_itself ref_total a)
    (then_less (ref_cmp b b') (cell_cmp s s') e)

shift_less : (a b : Owned) (s s' : IVec) → cell_cmp s s' ≡ Less → edge_cmp (link a b s) (link a b s') ≡ Less
shift_less a b s s' e =
    then_equal (ref_cmp a a) (ordering_then (ref_cmp b b) (cell_cmp s s')) (tied_itself ref_total a)
    (then_equal (ref_cmp b b) (cell_cmp s s') (tied_itself ref_total b) e)

both_links : {x y : Link} (P : Link → Link → Type 0) (x' y' : Link) → x ≡ x' → y ≡ y' → P x' y' → P x y
both_links {x} {y} P x' y' p q h = subst (λ (v : Link). P v y) (sym p) (subst (λ (v : Link). P x' v) (sym q) h)

pub all_links_sorted : (bases heads : List Owned) (ss : List IVec) → IsStrictlySortedBy ref_cmp bases → IsStrictlySortedBy ref_cmp heads → IsStrictlySortedBy cell_cmp ss
    → IsStrictlySortedBy edge_cmp (all_links bases heads ss)
all_links_sorted bases heads ss p q r =
    sorted-flat_map ref_cmp edge_cmp (λ a. flat_map (λ b. map (λ s. link a b s) ss) heads) bases
    (λ a. sorted-flat_map ref_cmp edge_cmp (λ b. map (λ s. link a b s) ss) heads
    (λ b. sorted-map cell_cmp edge_cmp (λ s. link a b s) ss (λ s s' e. shift_less a b s s' e) r)
    (λ b b' y y' e m m'.
    let u = Member-from_map (λ s. link a b s) y ss m in
    let v = Member-from_map (λ s. link a b' s) y' ss m' in
    both_links (λ x y. edge_cmp x y ≡ Less) (link a b u.0) (link a b' v.0) u.2 v.2 (head_less a b b' u.0 v.0 e))
    q)
    (λ a a' y y' e m m'.
    let u = links_of a heads ss y m in
    let v = links_of a' heads ss y' m' in
    both_links (λ x y. edge_cmp x y ≡ Less) (link a u.0 u.1) (link a' v.0 v.1) u.4 v.4 (base_less (link a u.0 u.1) (link a' v.0 v.1) e))
    p

-- members of the true overlaps
pub Member-overlaps : (n : Scale) (bases heads : List Owned) (e : Link) → IsTrueOverlap n bases heads e → Member e (true_overlaps n bases heads)
unfolding true_overlaps
Member-overlaps n bases heads e h =
    Member-filter (λ e. is_true n e) e (all_links bases heads (shifts n.domain.periodic))
    (Member-all_links bases heads (shifts n.domain.periodic) e h.is_base h.is_head h.is_shift) h.is_near

pub Member-from_overlaps : (n : Scale) (bases heads : List Owned) (e : Link) → Member e (true_overlaps n bases heads) → IsTrueOverlap n bases heads e
unfolding true_overlaps
Member-from_overlaps n bases heads e m =
    let f = Member-from_filter (λ e. is_true n e) e (all_links bases heads (shifts n.domain.periodic)) m in
    let h = Member-from_all_links bases heads (shifts n.domain.periodic) e f.0 in
    record { is_base = h.0; is_head = h.1; is_shift = h.2; is_near = f.1 }

pub overlaps_sorted : (n : Scale) (bases heads : List Owned) → IsStrictlySortedBy ref_cmp bases → IsStrictlySortedBy ref_cmp heads
    → IsStrictlySortedBy edge_cmp (true_overlaps n bases heads)
unfolding true_overlaps
overlaps_sorted n bases heads p q =
    IsStrictlySortedBy-filter edge_cmp (λ e. is_true n e) (all_links bases heads (shifts n.domain.periodic))
    (all_links_sorted bases heads (shifts n.domain.periodic) p q (shifts_sorted n.domain.periodic))

pub Member-of_rank : (rank : ℕ) (edges : List Link) (e : Link) → Member e edges → e.base.owner ≡ rank → Member e (of_rank rank edges)
unfolding of_rank
Member-of_rank rank edges e m h = Member-filter (λ e. nat_eq e.base.owner rank) e edges m (grind (arith, nat_tests, h))

pub Member-from_of_rank : (rank : ℕ) (edges : List Link) (e : Link) → Member e (of_rank rank edges) → Member e edges × (e.base.owner ≡ rank)
unfolding of_rank
Member-from_of_rank rank edges e m =
    let r = Member-from_filter (λ e. nat_eq e.base.owner rank) e edges m in
    let t = r.1 in
    (r.0, grind (arith, nat_tests, t))

-- the connector of a rank is the list in edge order whose members are its overlaps
pub connector_is : (n : Scale) (bases heads : List Owned) (rank : ℕ) (edges : List Link)
    → IsStrictlySortedBy ref_cmp bases → IsStrictlySortedBy ref_cmp heads → IsStrictlySortedBy edge_cmp edges
    → ((e : Link) → Member e edges → IsTrueOverlap n bases heads e × (e.base.owner ≡ rank))
    → ((e : Link) → IsTrueOverlap n bases heads e → e.base.owner ≡ rank → Member e edges)
    → edges ≡ of_rank rank (true_overlaps n bases heads)
unfolding of_rank
connector_is n bases heads rank edges p q s sound whole =
    same_from_members edge_total edges (of_rank rank (true_overlaps n bases heads)) s
    (IsStrictlySortedBy-filter edge_cmp (λ e. nat_eq e.base.owner rank) (true_overlaps n bases heads) (overlaps_sorted n bases heads p q))
    (λ e m. let h = sound e m in Member-of_rank rank (true_overlaps n bases heads) e (Member-overlaps n bases heads e h.0) h.1)
    (λ e m. let h = Member-from_of_rank rank (true_overlaps n bases heads) e m in whole e (Member-from_overlaps n bases heads e h.0) h.1)

-- an overlap seen from its head
greatest_comm : (a b : IVec) → greatest b a ≡ greatest a b
greatest_comm a b = same_cell (omega (arith, ints, clamps)) (omega (arith, ints, clamps)) (omega (arith, ints, clamps))

swap_factors : (w p q : ℤ) → (w *ℤ q) *ℤ p ≡ (w *ℤ p) *ℤ q
swap_factors w p q =
    let a = mul_assoc w q p in
    let b = mul_assoc w p q in
    let d = ap (λ (v : ℤ). w *ℤ v) (mul_comm q p) in
    a ∙ d ∙ sym b

flipped : Scale → Scale
flipped n = record { base = n.head; head = n.base; reach = n.reach; domain = n.domain }

scale_at : Space → IVec → IVec → IVec → IVec → Scale
scale_at frame w a b finest = record {
  base = coarse finest a;
  head = coarse finest b;
  reach = times (times w (coarse finest a)) (coarse finest b);
  domain = finer frame finest;
}

same_reach : {n m : IVec} (a b : IVec) (d : Space) → n ≡ m
    → (let s : Scale = record { base = a; head = b; reach = n; domain = d } in s) ≡ record { base = a; head = b; reach = m; domain = d }
same_reach a b d e = ap (λ (r : IVec). let s : Scale = record { base = a; head = b; reach = r; domain = d } in s) e

flip_scale : (frame : Space) (w a b : IVec) → scale frame w b a ≡ flipped (scale frame w a b)
unfolding flipped scale_at
flip_scale frame w a b =
    ap (scale_at frame w b a) (greatest_comm a b)
    ∙ same_reach (coarse (greatest a b) b) (coarse (greatest a b) a) (finer frame (greatest a b))
    (let p = coarse (greatest a b) a in let q = coarse (greatest a b) b in
    same_cell (swap_factors w.k p.k q.k) (swap_factors w.j p.j q.j) (swap_factors w.i p.i q.i))

near_turned : (n : Scale) (x y : Corners) (s : IVec) → near n x y s ≡ true → near (flipped n) y x (opposite s) ≡ true
unfolding flipped
near_turned n x y s t =
    let h = Meet-test {a = grown (refined x n.base) n.reach} {b = image n.domain (refined y n.head) s} t in
    let k = mul-neg s.k n.domain.size.k in
    let j = mul-neg s.j n.domain.size.j in
    let i = mul-neg s.i n.domain.size.i in
    meets-from {a = grown (refined y n.head) n.reach} {b = image n.domain (refined x n.base) (opposite s)}
    (record {
      low = record { k = omega (arith, ints, h.high.k, k); j = omega (arith, ints, h.high.j, j); i = omega (arith, ints, h.high.i, i) };
      high = record { k = omega (arith, ints, h.low.k, k); j = omega (arith, ints, h.low.j, j); i = omega (arith, ints, h.low.i, i) };
    })

pub turn : (frame : Space) (w a b : IVec) (bases heads : List Owned) (e : Link)
    → IsTrueOverlap (scale frame w a b) bases heads e → IsTrueOverlap (scale frame w b a) heads bases (turned e)
turn frame w a b bases heads e h = record {
  is_base = h.is_head;
  is_head = h.is_base;
  is_shift = opposite-shifts frame.periodic e.shift h.is_shift;
  is_near = ap (λ (n : Scale). is_true n (turned e)) (flip_scale frame w a b) ∙ near_turned (scale frame w a b) e.base.bx e.head.bx e.shift h.is_near;
}

opposite_twice : (s : IVec) → opposite (opposite s) ≡ s
opposite_twice s = same_cell (omega (arith, ints)) (omega (arith, ints)) (omega (arith, ints))

pub turned_twice : (e : Link) → turned (turned e) ≡ e
turned_twice e = same_link refl refl (opposite_twice e.shift)

pub turn_back : (frame : Space) (w a b : IVec) (bases heads : List Owned) (e : Link)
    → IsTrueOverlap (scale frame w b a) heads bases (turned e) → IsTrueOverlap (scale frame w a b) bases heads e
turn_back frame w a b bases heads e h =
    subst (λ (v : Link). IsTrueOverlap (scale frame w a b) bases heads v) (turned_twice e) (turn frame w b a heads bases (turned e) h)

pub turned-overlaps : (frame : Space) (w a b : IVec) (bases heads : List Owned) (e : Link)
    → Member e (true_overlaps (scale frame w a b) bases heads) ↔ Member (turned e) (true_overlaps (scale frame w b a) heads bases)
turned-overlaps frame w a b bases heads e = (
  λ m. Member-overlaps (scale frame w b a) heads bases (turned e) (turn frame w a b bases heads e (Member-from_overlaps (scale frame w a b) bases heads e m)),
  λ m. Member-overlaps (scale frame w a b) bases heads e (turn_back frame w a b bases heads e (Member-from_overlaps (scale frame w b a) heads bases (turned e) m)),
)
