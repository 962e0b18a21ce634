-- Linear refinement: the value of a fine cell, from that of its coarse cell and the slopes between the neighbours of that.
use Rattle.std.specs.Prelude.{◌≡◌, ℕ, ◌<◌, ℤ, pos, ◌+ℤ◌, ◌-ℤ◌, ◌*ℤ◌, ◌≤ℤ◌, ◌<ℤ◌, unsigned_abs, List, slice_index, if◌then◌else◌}
use Rattle.std.specs.Int.{int_rem_euclid}
use Rattle.samr_box.specs.declared.vector.Axis.{Axis}
use Rattle.samr_box.specs.declared.vector.Axis.TheVariants.{I, J, K}
use Rattle.samr_box.specs.declared.vector.IVec.{IVec}
use Rattle.samr_box.specs.Vector.{at}
use Rattle.samr_box.specs.Space.{flag}
use Rattle.samr_box.specs.Ratios.{floor}
use Rattle.samr_linear.specs.declared.linear.Linear.{Linear}

-- half the difference of the neighbours, rounded down
abbrev pub slope : ℕ → ℕ → ℤ
slope low high = floor (pos high -ℤ pos low) (pos 2)

-- what an axis adds: the slope times how far the middle of the fine cell lies from that of the coarse one, in coarse cells
unfoldable pub share : ℕ → ℕ → ℤ → ℤ → ℤ
share low high offset ratio = floor (slope low high *ℤ (((pos 2 *ℤ offset) +ℤ pos 1) -ℤ ratio)) (pos 2 *ℤ ratio)

-- the place of an axis among three numbers
abbrev pub on : Axis → List ℕ → ℕ
on I xs = slice_index xs 0
on J xs = slice_index xs 1
on K xs = slice_index xs 2

-- the axes that are not real add nothing
unfoldable pub share_on : Linear → List ℕ → List ℕ → IVec → Axis → ℤ
share_on s low high o axis = if flag axis s.real then share (on axis low) (on axis high) (at axis o) (at axis s.ratio) else pos 0

unfoldable pub lin : Linear → ℕ → List ℕ → List ℕ → IVec → ℕ
lin s v low high o =
    unsigned_abs (int_rem_euclid (((pos v +ℤ share_on s low high o I) +ℤ share_on s low high o J) +ℤ share_on s low high o K) (pos s.modulus))

-- a fine cell's place in a coarse cell of so many fine ones
pub record IsPlace (ratio o : IVec) : Type 0 where
  pub low : (axis : Axis) → pos 0 ≤ℤ at axis o
  pub high : (axis : Axis) → at axis o <ℤ at axis ratio

-- what a closure has to keep so that it answers Lin
pub record KeepsLin (s : Linear) (pre : ℕ → List ℕ → List ℕ → IVec → Type 0) (post : ℕ → List ℕ → List ℕ → IVec → ℕ → Type 0) : Type 0 where
  pub can : (v : ℕ) (low high : List ℕ) (o : IVec) → v < s.modulus → IsPlace s.ratio o → pre v low high o
  pub gives : (v : ℕ) (low high : List ℕ) (o : IVec) (y : ℕ) → v < s.modulus → IsPlace s.ratio o → post v low high o y → y ≡ lin s v low high o
