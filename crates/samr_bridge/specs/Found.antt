-- What the ranks of the centre's boxes find of the overlaps of east and west.
use Rattle.std.specs.Prelude.{ℕ, pos, Bool, ◌&&◌, List, map, filter}
use Rattle.std.specs.Ordering.{is_eq}
use Rattle.std.specs.List.{flat_map, range_with_len}
use Rattle.samr_box.specs.Vector.{alike}
use Rattle.samr_box.specs.Space.{is_zero}
use Rattle.samr_level.specs.declared.parts.Pair.{Pair}
use Rattle.samr_level.specs.Refs.{Owned, Link, link}
use Rattle.samr_level.specs.RefOrders.{ref_cmp, edge_cmp, in_order}
use Rattle.samr_level.specs.Overlaps.{Scale, scale, is_true, IsTrueOverlap}
use Rattle.samr_level.specs.Pairs.{pair}
use Rattle.samr_bridge.specs.Bridge.{Bridging}

-- an edge to the east that moves nothing and an edge to the west leave the same box
abbrev pub leave_one_box : Link → Link → Bool
leave_one_box a b = is_eq (ref_cmp a.base b.base) && is_zero a.shift

-- their heads joined: an edge from the east to the west
abbrev pub joined : Link → Link → Link
joined a b = link a.head b.head b.shift

-- all pairs of edges joined
abbrev pub all_joined : List Link → List Link → List Link
all_joined to_east to_west = flat_map (λ a. map (λ b. joined a b) (filter (λ b. leave_one_box a b) to_west)) to_east

-- those of which the heads overlap, in edge order, each once
unfoldable pub found_by : Scale → List Link → List Link → List Link
found_by n to_east to_west = in_order edge_cmp (filter (λ e. is_true n e) (all_joined to_east to_west))

-- what a rank has of the overlaps of east and centre, of centre and west, and, in the end, of east and west
abbrev pub east_pair : Bridging → ℕ → Pair
east_pair w rank = pair w.frame w.east_width w.east_ratio w.centre_ratio w.east w.centre rank

abbrev pub west_pair : Bridging → ℕ → Pair
west_pair w rank = pair w.frame w.west_width w.centre_ratio w.west_ratio w.centre w.west rank

abbrev pub bridge_pair : Bridging → ℕ → Pair
bridge_pair w rank = pair w.frame w.width w.east_ratio w.west_ratio w.east w.west rank

-- how east and west are compared
abbrev pub bridge_scale : Bridging → Scale
bridge_scale w = scale w.frame w.width w.east_ratio w.west_ratio

-- what a rank finds with its centre boxes
unfoldable pub found : Bridging → ℕ → List Link
found w rank = found_by (bridge_scale w) (east_pair w rank).back.edges (west_pair w rank).forth.edges

-- what all ranks find
abbrev pub all_found : Bridging → List Link
all_found w = flat_map (λ rank. found w rank) (range_with_len 0 w.ranks)

-- the centre box by way of which an overlap of east and west is found: it overlaps the east box where it stands, and the
-- image of the west box by the same shift
pub record IsWay (w : Bridging) (e : Link) (c : Owned) : Type 0 where
  pub to_east : IsTrueOverlap (scale w.frame w.east_width w.centre_ratio w.east_ratio) w.centre w.east (link c e.base (alike (pos 0)))
  pub to_west : IsTrueOverlap (scale w.frame w.west_width w.centre_ratio w.west_ratio) w.centre w.west (link c e.head e.shift)
