-- How a rank searches for pairs of edges: the heads to the west lie in a look-up, which is asked for each head to the east
-- at each shift.
use Rattle.std.specs.Prelude.{ℕ, pos, negsuc, Bool, ◌&&◌, cond, List, [], ◌∷◌}
use Rattle.std.specs.List.{flat_map, slice_get}
use Rattle.std.specs.Option.{option_map_or}
use Rattle.samr_box.specs.declared.vector.IVec.{IVec}
use Rattle.samr_box.specs.Vector.{alike, plus, minus, times, least, greatest}
use Rattle.samr_box.specs.Corners.{Corners}
use Rattle.samr_box.specs.Ratios.{coarse, last_child}
use Rattle.samr_box.specs.Space.{is_zero}
use Rattle.samr_find.specs.Places.{meeting}
use Rattle.samr_level.specs.Refs.{Link}
use Rattle.samr_level.specs.Overlaps.{Scale, is_true}
use Rattle.samr_bridge.specs.Found.{leave_one_box, joined}

-- the coordinates that a box may have
abbrev pub clipped : IVec → IVec
clipped x = least (greatest x (alike (negsuc 1073741823))) (alike (pos 1073741824))

-- a box of the west's index space that every west box meets whose image by a shift lies near an east box
abbrev pub window_low : Scale → Corners → IVec → IVec
window_low n a s = clipped (coarse (minus (minus (times a.lo n.base) n.reach) (times s n.domain.size)) n.head)

abbrev pub window_high : Scale → Corners → IVec → IVec
window_high n a s = clipped (coarse (minus (plus (last_child a.hi n.base) n.reach) (times s n.domain.size)) n.head)

abbrev pub window : Scale → Corners → IVec → Corners
window n a s = record { lo = window_low n a s; hi = greatest (window_high n a s) (window_low n a s) }

-- whether two edges make a pair, and what they give
abbrev pub makes_pair : Scale → Link → Link → Bool
makes_pair n a b = leave_one_box a b && is_true n (joined a b)

abbrev pub pair_of : Scale → Link → Link → List Link
pair_of n a b = cond (makes_pair n a b) (joined a b ∷ []) []

-- what an edge to the east gives with the edge at a place, and with the edges in a window
abbrev pub pair_at : Scale → List Link → Link → ℕ → List Link
pair_at n to_west a place = option_map_or (λ b. pair_of n a b) (slice_get to_west place) []

unfoldable pub pairs_at : Scale → List Corners → List Link → Link → IVec → List Link
pairs_at n heads to_west a s = flat_map (λ place. pair_at n to_west a place) (meeting heads (window n a.head.bx s))

unfoldable pub pairs_by : Scale → List Corners → List IVec → List Link → Link → List Link
pairs_by n heads ss to_west a = cond (is_zero a.shift) (flat_map (λ s. pairs_at n heads to_west a s) ss) []

-- all pairs, one after another
unfoldable pub all_pairs : Scale → List Link → List Link → List Link
all_pairs n to_east to_west = flat_map (λ a. flat_map (λ b. pair_of n a b) to_west) to_east
