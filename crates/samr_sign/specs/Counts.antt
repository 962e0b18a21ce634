-- How many cells of a box are tagged. A set of tags is a test of a cell.
use Rattle.std.specs.Prelude.{◌≡◌, ℕ, ◌+◌, ◌<◌, ◌^◌, ℤ, pos, ◌+ℤ◌, ◌-ℤ◌, unsigned_abs, Bool, List, map, length, sum, sum_by, slice_index}
use Rattle.std.specs.List.{range_with_len}
use Rattle.std.specs.Simd.Lanes.{zip2}
use Rattle.samr_box.specs.declared.vector.Axis.{Axis}
use Rattle.samr_box.specs.declared.vector.Axis.TheVariants.{I, J, K}
use Rattle.samr_box.specs.declared.vector.IVec.{IVec}
use Rattle.samr_box.specs.Vector.{at, put, plus}
use Rattle.samr_box.specs.Corners.{Corners, IsBox, span}
use Rattle.samr_bits.specs.Sums.{sum_below}
use Rattle.samr_bits.specs.Bits.{one}

-- the cell so many planes above the lower corner, and how many planes above it a cell lies
abbrev pub cell_at : Corners → ℕ → ℕ → ℕ → IVec
cell_at b x y z = plus b.lo (record { k = pos z; j = pos y; i = pos x })

abbrev pub offset : Axis → Corners → IVec → ℕ
offset axis b x = unsigned_abs (at axis x -ℤ at axis b.lo)

-- the sum of a weight over the cells of a box
unfoldable pub weigh : (IVec → ℕ) → Corners → ℕ
weigh f b = sum_below (λ z. sum_below (λ y. sum_below (λ x. f (cell_at b x y z)) (span I b)) (span J b)) (span K b)

-- how many cells of a box are tagged
unfoldable pub tally : (IVec → Bool) → Corners → ℕ
tally t b = weigh (λ x. one (t x)) b

-- the plane of a box that lies so many planes above its lowest
abbrev pub slice : Axis → Corners → ℕ → Corners
slice axis b p = record { lo = put axis b.lo (at axis b.lo +ℤ pos p); hi = put axis b.hi (at axis b.lo +ℤ pos p) }

-- how many cells of each plane are tagged
unfoldable pub planes : Axis → (IVec → Bool) → Corners → List ℕ
planes axis t b = map (λ p. tally t (slice axis b p)) (range_with_len 0 (span axis b))

-- the signature of a box: its counts per plane on each axis
pub record Sign : Type 0 where
  pub bx : Corners
  pub i : List ℕ
  pub j : List ℕ
  pub k : List ℕ

abbrev pub sign : (IVec → Bool) → Corners → Sign
sign t b = record { bx = b; i = planes I t b; j = planes J t b; k = planes K t b }

abbrev pub counts : Axis → Sign → List ℕ
counts I s = s.i
counts J s = s.j
counts K s = s.k

-- how many cells are tagged in all, and in a plane
abbrev pub total : Sign → ℕ
total s = sum s.k

abbrev pub count_at : Axis → Sign → ℤ → ℕ
count_at axis s plane = slice_index (counts axis s) (unsigned_abs (plane -ℤ at axis s.bx.lo))

-- the sum of two signatures of one box
abbrev pub added : List ℕ → List ℕ → List ℕ
added xs ys = zip2 (λ x y. x + y) xs ys

abbrev pub sign_sum : Sign → Sign → Sign
sign_sum s r = record { bx = s.bx; i = added s.i r.i; j = added s.j r.j; k = added s.k r.k }

-- each axis counts the same cells of the box
pub record IsSign (s : Sign) : Type 0 where
  pub whole : IsBox s.bx
  pub lengths : (axis : Axis) → length (counts axis s) ≡ span axis s.bx
  pub sums : (axis : Axis) → sum (counts axis s) ≡ total s
  pub few : total s < 2 ^ 63

-- the signatures of disjoint sets of tags add up to that of their union
abbrev pub SignaturesAddUp : Type 0
SignaturesAddUp = (t u v : IVec → Bool) → ((x : IVec) → one (t x) + one (u x) ≡ one (v x)) → (b : Corners) → sign_sum (sign t b) (sign u b) ≡ sign v b

-- and the counts of a box, of any number of sets
abbrev pub CountsAddUp : Type 0
CountsAddUp = (ts : List (IVec → Bool)) (t : IVec → Bool) → ((x : IVec) → sum_by (λ u. one (u x)) ts ≡ one (t x)) → (b : Corners) → sum_by (λ u. tally u b) ts ≡ tally t b
