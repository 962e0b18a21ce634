-- The orders of lists.
use Rattle.std.specs.Ordering.{int_cmp, ordering_then}
use Rattle.std.specs.declared.cmp.Ordering.{Ordering}
use Rattle.samr_box.specs.declared.vector.IVec.{IVec}
use Rattle.samr_box.specs.Corners.{Corners}

-- cells, and shifts, by k, then j, then i
abbrev pub cell_cmp : IVec → IVec → Ordering
cell_cmp a b = ordering_then (int_cmp a.k b.k) (ordering_then (int_cmp a.j b.j) (int_cmp a.i b.i))

-- corner order: by lower corner, then by upper corner
abbrev pub corner_cmp : Corners → Corners → Ordering
corner_cmp a b = ordering_then (cell_cmp a.lo b.lo) (cell_cmp a.hi b.hi)
