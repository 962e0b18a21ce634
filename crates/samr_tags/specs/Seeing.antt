-- What a box of a level has for the boxes near it: its tagged cells within the buffer of an image of theirs.
use Rattle.std.specs.Prelude.{ℕ, Bool, ◌&&◌, nat_eq, List, [], filter}
use Rattle.std.specs.List.{list_any}
use Rattle.std.specs.Option.{option_map_or}
use Rattle.std.specs.Ordering.{is_eq}
use Rattle.samr_box.specs.declared.vector.IVec.{IVec}
use Rattle.samr_box.specs.Vector.{minus, times}
use Rattle.samr_box.specs.Corners.{Corners, holds, grown, met}
use Rattle.samr_box.specs.Space.{Space, image}
use Rattle.samr_find.specs.Cells.{cells_in}
use Rattle.samr_level.specs.Refs.{Owned, Link}
use Rattle.samr_level.specs.RefOrders.{ref_cmp}
use Rattle.samr_tags.specs.declared.seen.Seen.{Seen}

-- the cells within a buffer of the image of an edge's head
abbrev pub about : Space → IVec → Link → Corners
about d buffer e = grown (image d e.head.bx e.shift) buffer

-- the tagged cells of its base among them, `i` fastest, then `j`, then `k`
abbrev pub seen_cells : Space → IVec → (IVec → Bool) → Link → List IVec
seen_cells d buffer shape e = option_map_or (λ b. filter shape (cells_in b)) (met e.base.bx (about d buffer e)) []

unfoldable pub seen : Space → IVec → (IVec → Bool) → Link → Seen
seen d buffer shape e = record { edge = e; cells = seen_cells d buffer shape e }

-- the cells within a buffer of a cell, where the head of an edge stands
abbrev pub spread : Space → IVec → IVec → IVec → Corners
spread d buffer s c = let y = minus c (times s d.size) in grown (record { lo = y; hi = y }) buffer

-- some of the cells that a box has for another has the cell in its buffer
abbrev pub marks : Space → IVec → Seen → IVec → Bool
marks d buffer one x = list_any (λ c. holds (spread d buffer one.edge.shift c) x) one.cells

-- some of what is for a box does
abbrev pub is_for : Owned → Seen → Bool
is_for a one = is_eq (ref_cmp one.edge.head a)

abbrev pub marked_by : Space → IVec → Owned → List Seen → IVec → Bool
marked_by d buffer a list x = list_any (λ one. is_for a one && marks d buffer one x) list

-- what is for a rank
unfoldable pub told_to : ℕ → List Seen → List Seen
told_to rank list = filter (λ one. nat_eq one.edge.head.owner rank) list
