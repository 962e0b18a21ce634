-- Boxes taken away from boxes.
use Rattle.std.specs.Prelude.{List, [], ◌∷◌, ◌++◌, cond, fold}
use Rattle.std.specs.List.{flat_map}
use Rattle.std.specs.Option.{option_to_list}
use Rattle.samr_box.specs.declared.vector.Axis.{Axis}
use Rattle.samr_box.specs.declared.vector.Axis.TheVariants.{I, J, K}
use Rattle.samr_box.specs.Corners.{Corners, meets, below, above, level}

-- the slab of a box below another on an axis, then the slab above it
abbrev pub slabs : Axis → Corners → Corners → List Corners
slabs axis a b = option_to_list (below axis a b) ++ option_to_list (above axis a b)

-- a box without another that it meets: the slabs on axis i, then on j and on k those of the part that lies level with it so far
unfoldable pub without : Corners → Corners → List Corners
without a b =
    cond (meets a b) (slabs I a b ++ slabs J (level I a b) b ++ slabs K (level J (level I a b) b) b) (a ∷ [])

-- a list without a box, and without each of a list of boxes in turn
abbrev pub subtracted : List Corners → Corners → List Corners
subtracted list b = flat_map (λ a. without a b) list

abbrev pub all_subtracted : List Corners → List Corners → List Corners
all_subtracted list boxes = fold subtracted list boxes
