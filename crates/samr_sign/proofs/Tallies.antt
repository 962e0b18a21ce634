-- Laws of weights and counts over the cells of a box.
use Rattle.std.proofs.Common.{◌≡◌, ℕ, ◌+◌, ◌*◌, ◌<◌, ◌≤◌, Bool, true, false, refl, ap, sym, ◌∙◌, arith}
use Rattle.std.proofs.lemmas.Int.{ints}
use Rattle.std.specs.Prelude.{ℤ, pos, ◌+ℤ◌, ◌-ℤ◌, ◌≤ℤ◌, ◌<ℤ◌, unsigned_abs}
use Rattle.samr_box.specs.declared.vector.Axis.{Axis}
use Rattle.samr_box.specs.declared.vector.Axis.TheVariants.{I, J, K}
use Rattle.samr_box.specs.declared.vector.IVec.{IVec}
use Rattle.samr_box.specs.Vector.{at, put, AtMost}
use Rattle.samr_box.specs.Corners.{Corners, Holds, span, cells_of}
use Rattle.samr_box.proofs.Vectors.{same_cell, AtMost-at}
use Rattle.samr_box.proofs.CellSets.{Holds-lo, Holds-hi}
use Rattle.samr_bits.specs.Sums.{sum_below}
use Rattle.samr_bits.specs.Bits.{one}
use Rattle.samr_bits.proofs.Sums.{sum_one, sum_ext, sum_le, sum_most, sum_none, sum_plus, sum_append, sum_swap, sum_member}
use Rattle.samr_sign.specs.Counts.{cell_at, offset, weigh, tally, slice}
use Rattle.samr_sign.proofs.Slices.{offset_below, corners, Holds-slice}

-- a plane is one plane thick
pub span_slice : (axis : Axis) (b : Corners) (p : ℕ) → span axis (slice axis b p) ≡ 1
span_slice I b p = omega (arith, ints)
span_slice J b p = omega (arith, ints)
span_slice K b p = omega (arith, ints)

cell-K : (b : Corners) (x y p : ℕ) → cell_at (slice K b p) x y 0 ≡ cell_at b x y p
cell-K b x y p = same_cell (omega (arith, ints)) refl refl

cell-J : (b : Corners) (x p z : ℕ) → cell_at (slice J b p) x 0 z ≡ cell_at b x p z
cell-J b x p z = same_cell refl (omega (arith, ints)) refl

cell-I : (b : Corners) (p y z : ℕ) → cell_at (slice I b p) 0 y z ≡ cell_at b p y z
cell-I b p y z = same_cell refl refl (omega (arith, ints))

-- the weight of one plane
weigh-K : (f : IVec → ℕ) (b : Corners) (p : ℕ) → weigh f (slice K b p) ≡ sum_below (λ y. sum_below (λ x. f (cell_at b x y p)) (span I b)) (span J b)
unfolding weigh
weigh-K f b p =
    let plane : ℕ → ℕ = λ z. sum_below (λ y. sum_below (λ x. f (cell_at (slice K b p) x y z)) (span I b)) (span J b) in
    ap (sum_below plane) (span_slice K b p) ∙ sum_one plane
    ∙ ap (λ (g : ℕ → ℕ → IVec). sum_below (λ y. sum_below (λ x. f (g x y)) (span I b)) (span J b)) (λ i x y. cell-K b x y p i)

weigh-J : (f : IVec → ℕ) (b : Corners) (p : ℕ) → weigh f (slice J b p) ≡ sum_below (λ z. sum_below (λ x. f (cell_at b x p z)) (span I b)) (span K b)
unfolding weigh
weigh-J f b p =
    let row : ℕ → ℕ → ℕ = λ z y. sum_below (λ x. f (cell_at (slice J b p) x y z)) (span I b) in
    ap (λ n. sum_below (λ z. sum_below (row z) n) (span K b)) (span_slice J b p)
    ∙ sum_ext (λ z. sum_below (row z) 1) (λ z. row z 0) (span K b) (λ z _. sum_one (row z))
    ∙ ap (λ (g : ℕ → ℕ → IVec). sum_below (λ z. sum_below (λ x. f (g x z)) (span I b)) (span K b)) (λ i x z. cell-J b x p z i)

weigh-I : (f : IVec → ℕ) (b : Corners) (p : ℕ) → weigh f (slice I b p) ≡ sum_below (λ z. sum_below (λ y. f (cell_at b p y z)) (span J b)) (span K b)
unfolding weigh
weigh-I f b p =
    let cell : ℕ → ℕ → ℕ → ℕ = λ z y x. f (cell_at (slice I b p) x y z) in
    ap (λ n. sum_below (λ z. sum_below (λ y. sum_below (cell z y) n) (span J b)) (span K b)) (span_slice I b p)
    ∙ sum_ext (λ z. sum_below (λ y. sum_below (cell z y) 1) (span J b)) (λ z. sum_below (λ y. cell z y 0) (span J b)) (span K b)
    (λ z _. sum_ext (λ y. sum_below (cell z y) 1) (λ y. cell z y 0) (span J b) (λ y _. sum_one (cell z y)))
    ∙ ap (λ (g : ℕ → ℕ → IVec). sum_below (λ z. sum_below (λ y. f (g y z)) (span J b)) (span K b)) (λ i y z. cell-I b p y z i)

-- a box weighs what its planes weigh, on each axis
pub weigh_planes : (axis : Axis) (f : IVec → ℕ) (b : Corners) → weigh f b ≡ sum_below (λ p. weigh f (slice axis b p)) (span axis b)
unfolding weigh
weigh_planes K f b = sym (sum_ext (λ p. weigh f (slice K b p)) (λ p. sum_below (λ y. sum_below (λ x. f (cell_at b x y p)) (span I b)) (span J b)) (span K b) (λ p _. weigh-K f b p))
weigh_planes J f b =
    sum_swap (λ z y. sum_below (λ x. f (cell_at b x y z)) (span I b)) (span K b) (span J b)
    ∙ sym (sum_ext (λ p. weigh f (slice J b p)) (λ p. sum_below (λ z. sum_below (λ x. f (cell_at b x p z)) (span I b)) (span K b)) (span J b) (λ p _. weigh-J f b p))
weigh_planes I f b =
    sum_ext (λ z. sum_below (λ y. sum_below (λ x. f (cell_at b x y z)) (span I b)) (span J b)) (λ z. sum_below (λ x. sum_below (λ y. f (cell_at b x y z)) (span J b)) (span I b)) (span K b)
    (λ z _. sum_swap (λ y x. f (cell_at b x y z)) (span J b) (span I b))
    ∙ sum_swap (λ z x. sum_below (λ y. f (cell_at b x y z)) (span J b)) (span K b) (span I b)
    ∙ sym (sum_ext (λ p. weigh f (slice I b p)) (λ p. sum_below (λ z. sum_below (λ y. f (cell_at b p y z)) (span J b)) (span K b)) (span I b) (λ p _. weigh-I f b p))

pub tally_planes : (axis : Axis) (t : IVec → Bool) (b : Corners) → tally t b ≡ sum_below (λ p. tally t (slice axis b p)) (span axis b)
unfolding tally
tally_planes axis t b = weigh_planes axis (λ x. one (t x)) b

-- weights that are sums
pub weigh_plus : (f g : IVec → ℕ) (b : Corners) → weigh (λ x. f x + g x) b ≡ weigh f b + weigh g b
unfolding weigh
weigh_plus f g b =
    let row : (IVec → ℕ) → ℕ → ℕ → ℕ = λ h z y. sum_below (λ x. h (cell_at b x y z)) (span I b) in
    sum_ext (λ z. sum_below (row (λ x. f x + g x) z) (span J b)) (λ z. sum_below (row f z) (span J b) + sum_below (row g z) (span J b)) (span K b)
    (λ z _. sum_ext (row (λ x. f x + g x) z) (λ y. row f z y + row g z y) (span J b) (λ y _. sum_plus (λ x. f (cell_at b x y z)) (λ x. g (cell_at b x y z)) (span I b))
    ∙ sum_plus (row f z) (row g z) (span J b))
    ∙ sum_plus (λ z. sum_below (row f z) (span J b)) (λ z. sum_below (row g z) (span J b)) (span K b)

pub weigh_ext : (f g : IVec → ℕ) (b : Corners) → ((x : IVec) → f x ≡ g x) → weigh f b ≡ weigh g b
weigh_ext f g b e = ap (λ h. weigh h b) (λ i x. e x i)

-- the cells of a box, by number
pub cell_Holds : (b : Corners) (x y z : ℕ) → x < span I b → y < span J b → z < span K b → AtMost b.lo b.hi → Holds b (cell_at b x y z)
cell_Holds b x y z p q r h = record {
  low = record { k = omega (arith, ints); j = omega (arith, ints); i = omega (arith, ints) };
  high = record { k = omega (arith, ints, r, h.k); j = omega (arith, ints, q, h.j); i = omega (arith, ints, p, h.i) };
}

pub cell_is : (b : Corners) (x : IVec) → Holds b x → cell_at b (offset I b x) (offset J b x) (offset K b x) ≡ x
cell_is b x h = same_cell (omega (arith, ints, h.low.k)) (omega (arith, ints, h.low.j)) (omega (arith, ints, h.low.i))

pub weigh_le : (f g : IVec → ℕ) (b : Corners) → AtMost b.lo b.hi → ((x : IVec) → Holds b x → f x ≤ g x) → weigh f b ≤ weigh g b
unfolding weigh
weigh_le f g b h e =
    sum_le (λ z. sum_below (λ y. sum_below (λ x. f (cell_at b x y z)) (span I b)) (span J b)) (λ z. sum_below (λ y. sum_below (λ x. g (cell_at b x y z)) (span I b)) (span J b)) (span K b)
    (λ z r. sum_le (λ y. sum_below (λ x. f (cell_at b x y z)) (span I b)) (λ y. sum_below (λ x. g (cell_at b x y z)) (span I b)) (span J b)
    (λ y q. sum_le (λ x. f (cell_at b x y z)) (λ x. g (cell_at b x y z)) (span I b) (λ x p. e (cell_at b x y z) (cell_Holds b x y z p q r h))))

pub weigh_none : (f : IVec → ℕ) (b : Corners) → AtMost b.lo b.hi → ((x : IVec) → Holds b x → f x ≡ 0) → weigh f b ≡ 0
unfolding weigh
weigh_none f b h e =
    sum_none (λ z. sum_below (λ y. sum_below (λ x. f (cell_at b x y z)) (span I b)) (span J b)) (span K b)
    (λ z r. sum_none (λ y. sum_below (λ x. f (cell_at b x y z)) (span I b)) (span J b)
    (λ y q. sum_none (λ x. f (cell_at b x y z)) (span I b) (λ x p. e (cell_at b x y z) (cell_Holds b x y z p q r h))))

-- a cell weighs at most what the box weighs
pub weigh_member : (f : IVec → ℕ) (b : Corners) (x : IVec) → Holds b x → f x ≤ weigh f b
unfolding weigh
weigh_member f b x h =
    let i = offset I b x in
    let j = offset J b x in
    let k = offset K b x in
    let cell = sum_member (λ n. f (cell_at b n j k)) (span I b) i (offset_below I b x h) in
    let row = sum_member (λ n. sum_below (λ m. f (cell_at b m n k)) (span I b)) (span J b) j (offset_below J b x h) in
    let plane = sum_member (λ n. sum_below (λ o. sum_below (λ m. f (cell_at b m o n)) (span I b)) (span J b)) (span K b) k (offset_below K b x h) in
    let is : f (cell_at b i j k) ≡ f x = ap f (cell_is b x h) in
    omega (arith, cell, row, plane, is)

-- a count is at most the number of cells
pub one_most : (b : Bool) → one b ≤ 1
one_most true = omega arith
one_most false = omega arith

pub tally_most : (t : IVec → Bool) (b : Corners) → tally t b ≤ cells_of b
unfolding tally weigh
tally_most t b =
    let row : ℕ → ℕ → ℕ = λ z y. sum_below (λ x. one (t (cell_at b x y z))) (span I b) in
    let most = sum_most (λ z. sum_below (row z) (span J b)) (span K b) (span J b * (span I b * 1))
    (λ z _. sum_most (row z) (span J b) (span I b * 1) (λ y _. sum_most (λ x. one (t (cell_at b x y z))) (span I b) 1 (λ x _. one_most (t (cell_at b x y z))))) in
    regroup _ (span I b) (span J b) (span K b) most
  where
    regroup : (n i j k : ℕ) → n ≤ k * (j * (i * 1)) → n ≤ i * j * k
    regroup n i j k h = omega (arith, h)

-- a box limited on an axis
abbrev pub limited : Axis → Corners → ℤ → ℤ → Corners
limited axis b lo hi = record { lo = put axis b.lo lo; hi = put axis b.hi hi }

-- its planes are planes of the box
limited_slice : (axis : Axis) (b : Corners) (lo hi : ℤ) (d p : ℕ) → at axis b.lo +ℤ pos d ≡ lo → slice axis b (d + p) ≡ slice axis (limited axis b lo hi) p
limited_slice I b lo hi d p e = let n : b.lo.i +ℤ pos (d + p) ≡ lo +ℤ pos p = omega (arith, ints, e) in ap (λ (v : ℤ). corners (put I b.lo v) (put I b.hi v)) n
limited_slice J b lo hi d p e = let n : b.lo.j +ℤ pos (d + p) ≡ lo +ℤ pos p = omega (arith, ints, e) in ap (λ (v : ℤ). corners (put J b.lo v) (put J b.hi v)) n
limited_slice K b lo hi d p e = let n : b.lo.k +ℤ pos (d + p) ≡ lo +ℤ pos p = omega (arith, ints, e) in ap (λ (v : ℤ). corners (put K b.lo v) (put K b.hi v)) n

span_limited : (axis : Axis) (b : Corners) (lo hi : ℤ) → span axis (limited axis b lo hi) ≡ unsigned_abs ((hi -ℤ lo) +ℤ pos 1)
span_limited I b lo hi = refl
span_limited J b lo hi = refl
span_limited K b lo hi = refl

slice_order : (axis : Axis) (b : Corners) (p : ℕ) → AtMost b.lo b.hi → AtMost (slice axis b p).lo (slice axis b p).hi
slice_order I b p h = record { k = h.k; j = h.j; i = omega (arith, ints) }
slice_order J b p h = record { k = h.k; j = omega (arith, ints); i = h.i }
slice_order K b p h = record { k = omega (arith, ints); j = h.j; i = h.i }

at_low : (axis : Axis) (b : Corners) (x : IVec) → Holds b x → at axis b.lo ≤ℤ at axis x
at_low axis b x h = AtMost-at axis h.low

-- a plane in which nothing weighs
empty_plane : (axis : Axis) (f : IVec → ℕ) (b : Corners) (p : ℕ) → AtMost b.lo b.hi → p < span axis b → ((x : IVec) → Holds b x → offset axis b x ≡ p → f x ≡ 0) → weigh f (slice axis b p) ≡ 0
empty_plane axis f b p h q e =
    weigh_none f (slice axis b p) (slice_order axis b p h) (λ x s. let parts = Holds-slice axis b p x h q s in e x parts.0 parts.1)

pub weigh_limited : (axis : Axis) (f : IVec → ℕ) (b : Corners) (lo hi : ℤ) → AtMost b.lo b.hi → at axis b.lo ≤ℤ lo → lo ≤ℤ hi → hi ≤ℤ at axis b.hi
    → ((x : IVec) → Holds b x → at axis x <ℤ lo → f x ≡ 0) → ((x : IVec) → Holds b x → hi <ℤ at axis x → f x ≡ 0)
    → weigh f b ≡ weigh f (limited axis b lo hi)
weigh_limited axis f b lo hi h p q r under over =
    let plane : ℕ → ℕ = λ n. weigh f (slice axis b n) in
    let d = unsigned_abs (lo -ℤ at axis b.lo) in
    let m = unsigned_abs ((hi -ℤ lo) +ℤ pos 1) in
    let e = unsigned_abs (at axis b.hi -ℤ hi) in
    let start : at axis b.lo +ℤ pos d ≡ lo = omega (arith, ints, p) in
    let size : span axis b ≡ d + (m + e) = omega (arith, ints, p, q, r) in
    let front : sum_below plane d ≡ 0 = sum_none plane d (λ n less. empty_plane axis f b n h (omega arith) (λ x in_box here. under x in_box (let low = at_low axis b x in_box in omega (arith, ints, here, less, start, low)))) in
    let back : sum_below (λ n. plane (d + (m + n))) e ≡ 0 =
    sum_none (λ n. plane (d + (m + n))) e (λ n less. empty_plane axis f b (d + (m + n)) h (omega arith) (λ x in_box here. over x in_box (let low = at_low axis b x in_box in omega (arith, ints, here, less, start, q, low)))) in
    let middle : sum_below (λ n. plane (d + n)) m ≡ weigh f (limited axis b lo hi) =
    sum_ext (λ n. plane (d + n)) (λ n. weigh f (slice axis (limited axis b lo hi) n)) m (λ n _. ap (weigh f) (limited_slice axis b lo hi d n start))
    ∙ ap (sum_below (λ n. weigh f (slice axis (limited axis b lo hi) n))) (sym (span_limited axis b lo hi))
    ∙ sym (weigh_planes axis f (limited axis b lo hi)) in
    weigh_planes axis f b ∙ ap (sum_below plane) size
    ∙ omega (arith, sum_append plane d (m + e), sum_append (λ n. plane (d + n)) m e, front, back, middle)

-- a box weighs what a part weighs outside which nothing does
pub weigh_narrow : (f : IVec → ℕ) (b part : Corners) → AtMost b.lo b.hi → AtMost part.lo part.hi → ((x : IVec) → Holds part x → Holds b x)
    → ((x : IVec) → Holds b x → (Holds part x → ⊥) → f x ≡ 0) → weigh f b ≡ weigh f part
weigh_narrow f b part h order inside none =
    let lo = inside part.lo (Holds-lo order) in
    let hi = inside part.hi (Holds-hi order) in
    let planes : Corners = limited K b part.lo.k part.hi.k in
    let rows : Corners = limited J planes part.lo.j part.hi.j in
    let order_planes : AtMost planes.lo planes.hi = record { k = order.k; j = h.j; i = h.i } in
    let order_rows : AtMost rows.lo rows.hi = record { k = order.k; j = order.j; i = h.i } in
    let in_planes : (x : IVec) → Holds planes x → Holds b x = λ x s. record {
      low = record { k = omega (arith, ints, s.low.k, lo.low.k); j = s.low.j; i = s.low.i };
      high = record { k = omega (arith, ints, s.high.k, hi.high.k); j = s.high.j; i = s.high.i };
    } in
    let in_rows : (x : IVec) → Holds rows x → Holds b x = λ x s. record {
      low = record { k = omega (arith, ints, s.low.k, lo.low.k); j = omega (arith, ints, s.low.j, lo.low.j); i = s.low.i };
      high = record { k = omega (arith, ints, s.high.k, hi.high.k); j = omega (arith, ints, s.high.j, hi.high.j); i = s.high.i };
    } in
    weigh_limited K f b part.lo.k part.hi.k h lo.low.k order.k hi.high.k
    (λ x s less. none x s (λ p. absurd (omega (arith, ints, less, p.low.k)))) (λ x s less. none x s (λ p. absurd (omega (arith, ints, less, p.high.k))))
    ∙ weigh_limited J f planes part.lo.j part.hi.j order_planes lo.low.j order.j hi.high.j
    (λ x s less. none x (in_planes x s) (λ p. absurd (omega (arith, ints, less, p.low.j)))) (λ x s less. none x (in_planes x s) (λ p. absurd (omega (arith, ints, less, p.high.j))))
    ∙ weigh_limited I f rows part.lo.i part.hi.i order_rows lo.low.i order.i hi.high.i
    (λ x s less. none x (in_rows x s) (λ p. absurd (omega (arith, ints, less, p.low.i)))) (λ x s less. none x (in_rows x s) (λ p. absurd (omega (arith, ints, less, p.high.i))))

one_none : (b : Bool) → (b ≡ true → ⊥) → one b ≡ 0
one_none true h = absurd (h refl)
one_none false h = refl

pub tally_narrow : (t : IVec → Bool) (b part : Corners) → AtMost b.lo b.hi → AtMost part.lo part.hi → ((x : IVec) → Holds part x → Holds b x)
    → ((x : IVec) → Holds b x → t x ≡ true → Holds part x) → tally t b ≡ tally t part
unfolding tally
tally_narrow t b part h order inside all = weigh_narrow (λ x. one (t x)) b part h order inside (λ x s none. one_none (t x) (λ e. none (all x s e)))

pub tally_none : (t : IVec → Bool) (b : Corners) → AtMost b.lo b.hi → ((x : IVec) → Holds b x → t x ≡ true → ⊥) → tally t b ≡ 0
unfolding tally
tally_none t b h none = weigh_none (λ x. one (t x)) b h (λ x s. one_none (t x) (none x s))
