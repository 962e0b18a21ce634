-- Where a ghost cell gets its value: beyond the borders from the boundary, else from a box of its level, else from a box of the level below.
use Rattle.std.specs.Prelude.{Bool, ◌&&◌, not, List, [], ◌∷◌, ◌++◌, map, filter, if◌then◌else◌}
use Rattle.std.specs.List.{flat_map, list_any}
use Rattle.samr_box.specs.declared.vector.IVec.{IVec}
use Rattle.samr_box.specs.Corners.{holds}
use Rattle.samr_box.specs.Ratios.{coarse}
use Rattle.samr_box.specs.Space.{image, wrapped}
use Rattle.samr_level.specs.Refs.{Owned}
use Rattle.samr_level.specs.Regions.{is_inside}
use Rattle.samr_level.specs.Overlaps.{shifts}
use Rattle.samr_sched.specs.declared.origin.Origin.{Origin}
use Rattle.samr_sched.specs.declared.origin.Origin.TheVariants.{Outside, Copy, Coarse}
use Rattle.samr_sched.specs.Ask.{Scheduling, domain_of, frame_of, coarse_frame}

-- the cell lies beyond the borders; a box of the level has it, wrapped
abbrev pub is_beyond : Scheduling → IVec → Bool
is_beyond w x = not (is_inside (domain_of w) x)

abbrev pub in_level : Scheduling → IVec → Bool
in_level w x = list_any (λ b. holds b.bx (wrapped (frame_of w) x)) w.level

-- the cell is a copy of one of this box, or lies under a coarse cell of this box and in no box of the level
abbrev pub is_copy : Scheduling → Owned → IVec → IVec → Bool
is_copy w h s x = is_inside (domain_of w) x && holds (image (frame_of w) h.bx s) x

abbrev pub is_coarse : Scheduling → Owned → IVec → IVec → Bool
is_coarse w h s x = is_inside (domain_of w) x && (not (in_level w x) && holds (image (coarse_frame w) h.bx s) (coarse x w.step))

-- all origins of a cell
abbrev pub of_heads : (Owned → IVec → Bool) → (Owned → IVec → Origin) → List Owned → List IVec → List Origin
of_heads test make heads ss = flat_map (λ h. map (λ s. make h s) (filter (λ s. test h s) ss)) heads

unfoldable pub origins : Scheduling → IVec → List Origin
origins w x =
    (if is_beyond w x then Outside ∷ [] else [])
    ++ of_heads (λ h s. is_copy w h s x) (λ h s. Copy h s) w.level (shifts (frame_of w).periodic)
    ++ of_heads (λ h s. is_coarse w h s x) (λ h s. Coarse h s) w.coarser (shifts (frame_of w).periodic)
