-- The faults of a mesh part: kind 3 is that of a box, 4 of the counts, 5 of the nesting, 6 of the edges.
use Rattle.std.specs.Prelude.{ℕ, pos, ◌+◌, ◌-◌, ◌==◌, ◌&&◌, ◌||◌, not, nat_lt, Bool, true, false, Option, Some, None, List, [], ◌∷◌, ◌++◌, map, take, length, sum_by, slice_get, if◌then◌else◌, int_lt}
use Rattle.std.specs.Int.{int_rem_euclid}
use Rattle.std.specs.List.{flat_map, filter_map, list_any, list_all, enumerate_from}
use Rattle.std.specs.declared.cmp.Ordering.{Ordering}
use Rattle.std.specs.declared.cmp.Ordering.TheVariants.{Less, Equal, Greater}
use Rattle.samr_box.specs.declared.vector.IVec.{IVec}
use Rattle.samr_box.specs.declared.vector.Axis.{Axis}
use Rattle.samr_box.specs.declared.vector.Axis.TheVariants.{I, J, K}
use Rattle.samr_box.specs.Vector.{at, put, alike, plus, minus}
use Rattle.samr_box.specs.Corners.{Corners, cells_of, meets, met, grown}
use Rattle.samr_box.specs.Ratios.{coarsened}
use Rattle.samr_box.specs.Space.{Space, flag, is_zero}
use Rattle.samr_boxlist.specs.Slabs.{all_subtracted}
use Rattle.samr_level.specs.Refs.{Owned, Link}
use Rattle.samr_level.specs.Regions.{Area, boxes_of}
use Rattle.samr_level.specs.RefOrders.{ref_cmp, edge_cmp}
use Rattle.samr_level.specs.Overlaps.{scale, true_overlaps}
use Rattle.samr_problem.specs.Fields.{Fields}
use Rattle.samr_mesh.specs.Domains.{area_of, level0_of, step_of, ratio_to, area_at}
use Rattle.samr_verify.specs.declared.fault.Fault.{Fault}
use Rattle.samr_verify.specs.declared.ground.Ground.{Ground}
use Rattle.samr_verify.specs.declared.edges.DueEdge.{DueEdge}
use Rattle.samr_verify.specs.declared.printed.PrintedBox.{PrintedBox}
use Rattle.samr_verify.specs.declared.printed.PrintedEdge.{PrintedEdge}
use Rattle.samr_verify.specs.declared.printed.PrintedLevel.{PrintedLevel}
use Rattle.samr_verify.specs.Faults.{unless, first_of}
use Rattle.samr_verify.specs.Printed.{boxes_in, boxes_at, settled_at}

-- every cell of a box lies in one of some boxes: nothing is left of it without them
abbrev pub covered : List Corners → Corners → Bool
covered boxes b = length (all_subtracted (b ∷ []) boxes) == 0

-- Kind 4: a level's line tells the number of some boxes and of their cells
abbrev pub tells : PrintedLevel → List Owned → Bool
tells level boxes = (level.boxes_told == length boxes) && (level.cells_told == sum_by (λ b. cells_of b.bx) boxes)

abbrev pub has_counts : ℕ → List Owned → PrintedLevel → Bool
has_counts l base level = tells level (boxes_in level) && (nat_lt 0 l || tells level base)

-- Kind 3: the box at a place comes after the one before it in level order, and meets none before it
abbrev pub is_less : Ordering → Bool
is_less Less = true
is_less Equal = false
is_less Greater = false

abbrev pub is_equal : Ordering → Bool
is_equal Less = false
is_equal Equal = true
is_equal Greater = false

abbrev pub comes_after : Option Owned → Owned → Bool
comes_after None b = false
comes_after (Some a) b = is_less (ref_cmp a b)

abbrev pub ascends : List Owned → ℕ → Owned → Bool
ascends boxes i b = if i == 0 then true else comes_after (slice_get boxes (i - 1)) b

abbrev pub meets_earlier : List Owned → ℕ → Owned → Bool
meets_earlier boxes i b = list_any (λ a. meets a.bx b.bx) (take i boxes)

-- it is the one of level 0 at its place; above level 0 it begins and ends with whole cells of the level below
abbrev pub is_one : Option Owned → Owned → Bool
is_one None b = false
is_one (Some a) b = is_equal (ref_cmp a b)

abbrev pub rest_in_cell : IVec → IVec → IVec
rest_in_cell x r = record { k = int_rem_euclid x.k r.k; j = int_rem_euclid x.j r.j; i = int_rem_euclid x.i r.i }

abbrev pub starts_cell : IVec → IVec → Bool
starts_cell r x = is_zero (rest_in_cell x r)

abbrev pub ends_cell : IVec → IVec → Bool
ends_cell r x = starts_cell r (plus x (alike (pos 1)))

abbrev pub is_refinement : IVec → Corners → Bool
is_refinement r b = starts_cell r b.lo && ends_cell r b.hi

abbrev pub is_made : Ground → ℕ → Owned → Bool
is_made g i b = if g.number == 0 then is_one (slice_get g.base i) b else is_refinement g.step b.bx

abbrev pub is_right : Ground → List Owned → ℕ → Owned → Bool
is_right g boxes i b =
    covered g.domain b.bx && (nat_lt b.owner g.ranks && (ascends boxes i b && (not (meets_earlier boxes i b) && is_made g i b)))

abbrev pub box_fault : Ground → List Owned → ℕ × PrintedBox → Option Fault
box_fault g boxes e = unless (is_right g boxes e.0 e.1.at) 3 e.1.line

abbrev pub box_faults : Ground → PrintedLevel → Option Fault
box_faults g level = first_of (map (box_fault g (boxes_in level)) (enumerate_from 0 level.boxes))

-- what the boxes of a level are checked against
abbrev pub step_below : Fields → ℕ → IVec
step_below p l = if l == 0 then alike (pos 1) else step_of p (l - 1)

abbrev pub ground_of : Fields → ℕ → ℕ → Ground
ground_of p ranks l = record {
  domain = boxes_of (area_at p l);
  ranks = ranks;
  number = l;
  base = level0_of p ranks;
  step = step_below p l;
}

-- Kind 5: the cells of a domain that lie in a box, wrapped round periodic borders. On an axis they are one range or two
abbrev pub with_range : Axis → Corners → IVec → IVec → Corners
with_range axis b lo hi = record { lo = put axis b.lo (at axis lo); hi = put axis b.hi (at axis hi) }

abbrev pub last_of : IVec → IVec
last_of size = minus size (alike (pos 1))

abbrev pub turned : Axis → Corners → IVec → IVec → IVec → List Corners
turned axis b size from to =
    if int_lt (at axis to) (at axis from) then with_range axis b (alike (pos 0)) to ∷ with_range axis b from (last_of size) ∷ []
    else with_range axis b from to ∷ []

abbrev pub folded_by : Axis → IVec → Corners → List Corners
folded_by axis size b =
    if int_lt (at axis (minus b.hi b.lo)) (at axis (last_of size)) then turned axis b size (rest_in_cell b.lo size) (rest_in_cell b.hi size)
    else with_range axis b (alike (pos 0)) (last_of size) ∷ []

abbrev pub folded_on : Axis → Space → Corners → List Corners
folded_on axis d b = if flag axis d.periodic then folded_by axis d.size b else b ∷ []

abbrev pub wrapped_boxes : Space → Corners → List Corners
wrapped_boxes d b = flat_map (folded_on K d) (flat_map (folded_on J d) (folded_on I d b))

abbrev pub wrapped_parts : Area → Corners → List Corners
wrapped_parts area b = flat_map (λ w. filter_map (λ p. met p w) (boxes_of area)) (wrapped_boxes area.frame b)

-- the level below has all of these about each box
abbrev pub nests_in : Area → IVec → IVec → List Corners → Owned → Bool
nests_in area step nest below b = list_all (λ w. covered below w) (wrapped_parts area (grown (coarsened b.bx step) nest))

abbrev pub nests : Area → IVec → IVec → List Owned → List Owned → Bool
nests area step nest boxes below = list_all (λ b. nests_in area step nest (map (λ a. a.bx) below) b) boxes

abbrev pub is_nested : Fields → List PrintedLevel → ℕ → Bool
is_nested p levels l = if l == 0 then true else nests (area_at p (l - 1)) (step_of p (l - 1)) p.nest (boxes_at levels l) (boxes_at levels (l - 1))

abbrev pub due_to : ℕ → Link → DueEdge
due_to m e = record { to_level = m; edge = e }

-- Kind 6: the edges that a level has to print: to itself, to the level below and to the level above
abbrev pub edges_to : Fields → List PrintedLevel → ℕ → ℕ → List DueEdge
edges_to p levels l m =
    map (due_to m) (true_overlaps (scale (area_of p).frame p.width (ratio_to p l) (ratio_to p m)) (settled_at levels l) (settled_at levels m))

abbrev pub edges_down : Fields → List PrintedLevel → ℕ → List DueEdge
edges_down p levels l = if l == 0 then [] else edges_to p levels l (l - 1)

unfoldable pub edges_due : Fields → List PrintedLevel → ℕ → List DueEdge
edges_due p levels l = if is_zero p.width then [] else edges_to p levels l l ++ edges_down p levels l ++ edges_to p levels l (l + 1)

abbrev pub same_edge : PrintedEdge → DueEdge → Bool
same_edge e due = (e.to_level == due.to_level) && is_equal (edge_cmp e.edge due.edge)

abbrev pub edge_fault : ℕ → List PrintedEdge → List DueEdge → Option Fault
edge_fault after [] [] = None
edge_fault after [] (d ∷ due) = Some (record { kind = 6; line = after })
edge_fault after (e ∷ told) [] = Some (record { kind = 6; line = e.line })
edge_fault after (e ∷ told) (d ∷ due) = if same_edge e d then edge_fault after told due else Some (record { kind = 6; line = e.line })

-- all together
abbrev pub level_faults : Fields → ℕ → List PrintedLevel → ℕ × PrintedLevel → List (Option Fault)
level_faults p ranks levels e =
    unless (has_counts e.0 (level0_of p ranks) e.1) 4 e.1.line
    ∷ unless (is_nested p levels e.0) 5 e.1.line
    ∷ box_faults (ground_of p ranks e.0) e.1
    ∷ edge_fault e.1.after e.1.edges (edges_due p levels e.0)
    ∷ []

-- the first fault of a mesh
abbrev pub level_fault : Fields → ℕ → List PrintedLevel → ℕ × PrintedLevel → Option Fault
level_fault p ranks levels e = first_of (level_faults p ranks levels e)

unfoldable pub mesh_fault : Fields → ℕ → List PrintedLevel → Option Fault
mesh_fault p ranks levels = first_of (map (level_fault p ranks levels) (enumerate_from 0 levels))
