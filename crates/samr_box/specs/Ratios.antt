-- Index spaces of finer and coarser levels. A ratio says how many fine cells lie along a coarse one on each axis.
use Rattle.std.specs.Prelude.{ℤ, pos}
use Rattle.std.specs.Int.{int_div_euclid}
use Rattle.samr_box.specs.declared.vector.IVec.{IVec}
use Rattle.samr_box.specs.Vector.{alike, plus, minus, times}
use Rattle.samr_box.specs.Corners.{Corners}

-- the quotient rounded down, below 0 too
abbrev pub floor : ℤ → ℤ → ℤ
floor x n = int_div_euclid x n

-- the coarse cell in which a fine cell lies
abbrev pub coarse : IVec → IVec → IVec
coarse x r = record { k = floor x.k r.k; j = floor x.j r.j; i = floor x.i r.i }

-- the first and the last fine cell of a coarse cell are x * r and x * r + (r - 1)
abbrev pub last_child : IVec → IVec → IVec
last_child x r = plus (times x r) (minus r (alike (pos 1)))

-- a box of the coarse index space in the fine one
abbrev pub refined : Corners → IVec → Corners
refined b r = record { lo = times b.lo r; hi = last_child b.hi r }

-- a box of the fine index space in the coarse one
abbrev pub coarsened : Corners → IVec → Corners
coarsened b r = record { lo = coarse b.lo r; hi = coarse b.hi r }
