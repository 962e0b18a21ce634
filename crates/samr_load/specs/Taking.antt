-- So many cells taken from a list of pieces.
use Rattle.std.specs.Prelude.{ℕ, ◌*◌, ◌-◌, ◌/◌, min, nat_le, ℤ, pos, ◌+ℤ◌, cond, List, [], ◌∷◌}
use Rattle.samr_box.specs.declared.vector.Axis.{Axis}
use Rattle.samr_box.specs.declared.vector.Axis.TheVariants.{I, J, K}
use Rattle.samr_box.specs.Vector.{at}
use Rattle.samr_box.specs.Corners.{Corners, cells_of, span, longest_of, before, from_plane}
use Rattle.samr_load.specs.Pieces.{Placed, piece_cmp, sorted}

pub record Parted : Type 0 where
  pub taken : List Placed
  pub rest : List Placed

-- the number of cells of a plane across an axis
abbrev pub across : Axis → Corners → ℕ
across I b = span J b * span K b
across J b = span I b * span K b
across K b = span I b * span J b

-- the planes across the longest axis that there is room for, but for `smallest` planes that stay
abbrev pub planes_taken : ℕ → Corners → ℕ → ℕ
planes_taken smallest b room = min (room / across (longest_of b) b) (span (longest_of b) b - smallest)

-- the plane at which a box is cut, and its two parts
abbrev pub cut_at : ℕ → Corners → ℕ → ℤ
cut_at smallest b room = at (longest_of b) b.lo +ℤ pos (planes_taken smallest b room)

abbrev pub lower : ℕ → Placed → ℕ → Placed
lower smallest q room = record q { bx = before (longest_of q.bx) q.bx (cut_at smallest q.bx room) }

abbrev pub upper : ℕ → Placed → ℕ → Placed
upper smallest q room = record q { bx = from_plane (longest_of q.bx) q.bx (cut_at smallest q.bx room) }

-- the first piece does not fit: it is cut, unless its part would have less than `smallest` planes, and all else stays
abbrev pub cut_first : ℕ → Placed → List Placed → ℕ → Parted
cut_first smallest q qs room =
    cond (nat_le smallest (planes_taken smallest q.bx room))
    (record { taken = lower smallest q room ∷ []; rest = upper smallest q room ∷ qs })
    (record { taken = []; rest = q ∷ qs })

abbrev pub with_first : Placed → Parted → Parted
with_first q p = record { taken = q ∷ p.taken; rest = p.rest }

-- whole pieces are taken while they fit
unfoldable pub taking : ℕ → List Placed → ℕ → Parted
taking smallest [] room = record { taken = []; rest = [] }
taking smallest (q ∷ qs) room =
    cond (nat_le (cells_of q.bx) room) (with_first q (taking smallest qs (room - cells_of q.bx))) (cut_first smallest q qs room)

-- what is taken of a list in corner order, and what stays
abbrev pub parted : ℕ → List Placed → ℕ → Parted
parted smallest list want = taking smallest (sorted piece_cmp list) want
