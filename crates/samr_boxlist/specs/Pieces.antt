-- Boxes chopped into pieces of so many planes.
use Rattle.std.specs.Prelude.{ℕ, ◌+◌, ◌*◌, pos, ◌+ℤ◌, ◌-ℤ◌, List, map}
use Rattle.std.specs.List.{flat_map, range_with_len}
use Rattle.std.specs.Int.{int_min, div_ceil}
use Rattle.samr_box.specs.declared.vector.Axis.{Axis}
use Rattle.samr_box.specs.declared.vector.Axis.TheVariants.{I, J, K}
use Rattle.samr_box.specs.Vector.{at, put}
use Rattle.samr_box.specs.Corners.{Corners, span}

-- piece number p, counted from 0: `most` planes, or those that are left
abbrev pub piece : Axis → ℕ → Corners → ℕ → Corners
piece axis most b p = record {
  lo = put axis b.lo (at axis b.lo +ℤ pos (p * most));
  hi = put axis b.hi (int_min (at axis b.hi) ((at axis b.lo +ℤ pos ((p + 1) * most)) -ℤ pos 1));
}

-- the pieces of a box along an axis, as many as its planes need
unfoldable pub pieces : Axis → ℕ → Corners → List Corners
pieces axis most b = map (piece axis most b) (range_with_len 0 (div_ceil (span axis b) most))

-- a list chopped along one axis, and along i, then j, then k
abbrev pub chopped_on : Axis → ℕ → List Corners → List Corners
chopped_on axis most list = flat_map (pieces axis most) list

abbrev pub chopped : ℕ → List Corners → List Corners
chopped most list = chopped_on K most (chopped_on J most (chopped_on I most list))
