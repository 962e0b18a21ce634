-- The rows of a schedule: how many ghost cells of a box have which origin.
use Rattle.std.specs.Prelude.{ℕ, ◌<◌, length, ◌-◌, ◌^◌, min, sum_by, Bool, ◌&&◌, not, nat_eq, List, [], ◌∷◌, ◌++◌, map, filter, Option, Some, None}
use Rattle.std.specs.List.{All, flat_map, enumerate_from}
use Rattle.samr_box.specs.declared.vector.IVec.{IVec}
use Rattle.samr_box.specs.Corners.{Corners, IsBox, holds, grown, met, cells_of}
use Rattle.samr_box.specs.Ratios.{refined, coarsened}
use Rattle.samr_box.specs.Space.{Space, image}
use Rattle.samr_level.specs.Refs.{Owned, Link}
use Rattle.samr_level.specs.RefOrders.{edge_cmp, in_order}
use Rattle.samr_level.specs.Levels.{own}
use Rattle.samr_sign.specs.Counts.{tally}
use Rattle.samr_sched.specs.declared.plan.Request.{Request}
use Rattle.samr_sched.specs.declared.plan.FieldPlan.{FieldPlan}
use Rattle.samr_sched.specs.declared.plan.BoxPlan.{BoxPlan}
use Rattle.samr_sched.specs.declared.plan.Plan.{Plan}
use Rattle.samr_sched.specs.declared.row.Row.{Row}
use Rattle.samr_sched.specs.declared.row.Row.TheVariants.{Copy, Coarse, Outside}
use Rattle.samr_sched.specs.Ask.{Scheduling, selves_of, downs_of}
use Rattle.samr_sched.specs.Origins.{is_beyond, is_copy, is_coarse}

-- how many ghost cells of a box pass a test
unfoldable pub ghosts_with : (IVec → Bool) → Corners → IVec → ℕ
ghosts_with test b g = tally (λ x. not (holds b x) && test x) (grown b g)

abbrev pub cells_in : Row → ℕ
cells_in (Copy field base head shift cells) = cells
cells_in (Coarse field base head shift cells) = cells
cells_in (Outside field base cells) = cells

-- the row has cells
abbrev pub has_cells : Row → Bool
has_cells row = not (nat_eq (cells_in row) 0)

-- the rows of a field of a box: for each edge, and for the boundary, where any cells are theirs
abbrev pub copy_row : Scheduling → Owned → ℕ × IVec → Link → Row
copy_row w b f e = Copy f.0 b e.head e.shift (ghosts_with (is_copy w e.head e.shift) b.bx f.1)

abbrev pub coarse_row : Scheduling → Owned → ℕ × IVec → Link → Row
coarse_row w b f e = Coarse f.0 b e.head e.shift (ghosts_with (is_coarse w e.head e.shift) b.bx f.1)

abbrev pub outside_row : Scheduling → Owned → ℕ × IVec → Row
outside_row w b f = Outside f.0 b (ghosts_with (is_beyond w) b.bx f.1)

unfoldable pub rows_of_box : Scheduling → Owned → ℕ × IVec → List Row
rows_of_box w b f =
    filter (λ row. has_cells row)
    (map (copy_row w b f) (selves_of w b) ++ map (coarse_row w b f) (downs_of w b) ++ outside_row w b f ∷ [])

-- those of a rank: box by box, and field by field
unfoldable pub rows_of : Scheduling → ℕ → List Row
rows_of w r = flat_map (λ b. flat_map (λ f. rows_of_box w b f) (enumerate_from 0 w.ghosts)) (own r w.level)

-- The same by the parts of a plan.

-- a count as a `u64` has it, which stops at its greatest
abbrev pub capped : ℕ → ℕ
capped n = min n (2 ^ 64 - 1)

-- the cells of a box, if there is one
abbrev pub size_of : Option Corners → ℕ
size_of None = 0
size_of (Some b) = cells_of b

-- the cells of a wide box that lie in the image of an edge's head
abbrev pub in_image : Space → Corners → Link → ℕ
in_image d wide e = size_of (met wide (image d e.head.bx e.shift))

-- the cells of a piece of the rest that lie under cells that are asked for, and under the image of an edge's head
abbrev pub under_asked : IVec → Corners → Option Corners → ℕ
under_asked step p None = 0
under_asked step p (Some c) = size_of (met p (refined c step))

abbrev pub under_image : Space → IVec → Link → Corners → ℕ
under_image below step e p = under_asked step p (met (coarsened p step) (image below e.head.bx e.shift))

-- the edges along which a plan asks
unfoldable pub asked_edges : List Request → List Link
asked_edges asked = in_order edge_cmp (map (λ q. q.edge) asked)

-- the rows of a field of a box
abbrev pub copy_by : Space → ℕ → Owned → Corners → Link → Row
copy_by d field base wide e = Copy field base e.head e.shift (capped (in_image d wide e))

abbrev pub coarse_by : Space → IVec → ℕ → Owned → List Corners → Link → Row
coarse_by below step field base rest e = Coarse field base e.head e.shift (capped (sum_by (λ p. under_image below step e p) rest))

abbrev pub outside_by : ℕ → Owned → Corners → List Corners → Row
outside_by field base wide inside = Outside field base (capped (cells_of wide) - capped (sum_by (λ p. cells_of p) inside))

unfoldable pub field_rows_by : Space → Space → IVec → Owned → ℕ → FieldPlan → List Row
field_rows_by frame below step base field p =
    filter (λ row. has_cells row)
    (map (λ e. copy_by frame field base (grown base.bx p.width) e) p.copies
    ++ map (λ e. coarse_by below step field base p.rest e) (asked_edges p.asked)
    ++ outside_by field base (grown base.bx p.width) p.inside ∷ [])

-- those of a box, and of all boxes
unfoldable pub box_rows_by : Space → Space → IVec → BoxPlan → List Row
box_rows_by frame below step b = flat_map (λ f. field_rows_by frame below step b.base f.0 f.1) (enumerate_from 0 b.fields)

unfoldable pub rows_by : Plan → List Row
rows_by plan = flat_map (λ b. box_rows_by plan.frame plan.below plan.step b) plan.boxes

-- a box can be grown by the widths of its fields, of which there are fewer than 256
pub record HasRoom (b : BoxPlan) : Type 0 where
  pub few : length b.fields < 2 ^ 8
  pub room : All (λ p. IsBox (grown b.base.bx p.width)) b.fields

abbrev pub HaveRoom : List BoxPlan → Type 0
HaveRoom boxes = All HasRoom boxes
