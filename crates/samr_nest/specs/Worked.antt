-- Worked rows: a level at both ends of a periodic frame, and a cluster over two parts of a domain.
use Rattle.std.specs.Prelude.{◌≡◌, ℤ, pos, Bool, true, false, List, [], ◌∷◌}
use Rattle.samr_box.specs.declared.vector.IVec.{IVec}
use Rattle.samr_box.specs.Corners.{Corners}
use Rattle.samr_boxlist.specs.Pieces.{chopped}
use Rattle.samr_level.specs.Refs.{Owned}
use Rattle.samr_level.specs.Regions.{Area}
use Rattle.samr_nest.specs.Nested.{nested}

-- a triple and a box in the plane k = 0, and such a box with rank 0 as its owner
abbrev pub flat : ℤ → ℤ → IVec
flat i j = record { k = pos 0; j = j; i = i }

abbrev pub plane_box : ℤ → ℤ → ℤ → ℤ → Corners
plane_box i j last_i last_j = record { lo = flat i j; hi = flat last_i last_j }

abbrev pub of_rank0 : Corners → Owned
of_rank0 b = record { owner = 0; bx = b }

-- a plane of so many cells, perhaps periodic along i
abbrev pub plane_area : ℤ → ℤ → Bool → List Corners → Area
plane_area i j periodic parts = record {
  frame = record { size = record { k = pos 1; j = j; i = i }; periodic = record { k = false; j = false; i = periodic } };
  parts = parts;
}

-- a nest width of 1 leaves the cells at the border, whose neighbours lie at the other end
abbrev pub AtBothEnds : Type 0
AtBothEnds =
    chopped 64 (nested (plane_area (pos 8) (pos 4) true [])
    (of_rank0 (plane_box (pos 0) (pos 0) (pos 1) (pos 3)) ∷ of_rank0 (plane_box (pos 6) (pos 0) (pos 7) (pos 3)) ∷ [])
    (flat (pos 1) (pos 1)) (plane_box (pos 0) (pos 0) (pos 1) (pos 3)))
    ≡ plane_box (pos 0) (pos 0) (pos 0) (pos 3) ∷ []

-- the cell of the cluster outside of both parts goes
abbrev pub OverTwoParts : Type 0
OverTwoParts =
    chopped 64 (nested (plane_area (pos 8) (pos 8) false (plane_box (pos 0) (pos 0) (pos 3) (pos 7) ∷ plane_box (pos 4) (pos 0) (pos 7) (pos 3) ∷ []))
    (of_rank0 (plane_box (pos 0) (pos 0) (pos 3) (pos 3)) ∷ of_rank0 (plane_box (pos 0) (pos 4) (pos 3) (pos 7)) ∷ of_rank0 (plane_box (pos 4) (pos 0) (pos 7) (pos 3)) ∷ [])
    (flat (pos 1) (pos 1)) (plane_box (pos 3) (pos 3) (pos 4) (pos 4)))
    ≡ plane_box (pos 3) (pos 3) (pos 3) (pos 4) ∷ plane_box (pos 4) (pos 3) (pos 4) (pos 3) ∷ []
