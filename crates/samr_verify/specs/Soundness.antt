-- What is true of a mesh part that has no fault.
use Rattle.std.specs.Prelude.{◌≡◌, ℕ, ◌+◌, ◌-◌, ◌<◌, ◌≤◌, Option, Some, None, List, [], ◌++◌, map, length, slice_get, if◌then◌else◌, ◌==◌, ◌⊎◌}
use Rattle.samr_box.specs.Corners.{IsBox}
use Rattle.samr_box.specs.Space.{is_zero}
use Rattle.samr_box.specs.Lists.{Member}
use Rattle.samr_level.specs.Refs.{Owned}
use Rattle.samr_level.specs.Overlaps.{scale, true_overlaps}
use Rattle.samr_problem.specs.Fields.{Fields}
use Rattle.samr_problem.specs.Problems.{IsProblem}
use Rattle.samr_mesh.specs.Domains.{level0_of, area_of, ratio_to}
use Rattle.samr_mesh.specs.Soundness.{IsMesh}
use Rattle.samr_verify.specs.declared.edges.DueEdge.{DueEdge}
use Rattle.samr_verify.specs.declared.fault.Fault.{Fault}
use Rattle.samr_verify.specs.Faults.{first_of}
use Rattle.samr_verify.specs.declared.printed.PrintedEdge.{PrintedEdge}
use Rattle.samr_verify.specs.declared.printed.PrintedLevel.{PrintedLevel}
use Rattle.samr_verify.specs.Printed.{boxes_in, all_boxes, boxes_at}
use Rattle.samr_verify.specs.MeshFaults.{due_to, mesh_fault}

-- the edge that a line prints
abbrev pub as_due : PrintedEdge → DueEdge
as_due e = record { to_level = e.to_level; edge = e.edge }

-- the true overlaps of two printed levels
abbrev pub overlaps : Fields → List PrintedLevel → ℕ → ℕ → List DueEdge
overlaps p levels l m = map (due_to m) (true_overlaps (scale (area_of p).frame p.width (ratio_to p l) (ratio_to p m)) (boxes_at levels l) (boxes_at levels m))

abbrev pub told_overlaps : Fields → List PrintedLevel → ℕ → List DueEdge
told_overlaps p levels l =
    if is_zero p.width then [] else overlaps p levels l l ++ (if l == 0 then [] else overlaps p levels l (l - 1)) ++ overlaps p levels l (l + 1)

-- one to as many levels as there may be, each with a box, and all of them boxes
pub record ArePrinted (p : Fields) (levels : List PrintedLevel) : Type 0 where
  pub some : 0 < length levels
  pub few : length levels ≤ p.levels
  pub some_boxes : (level : PrintedLevel) → Member level levels → 0 < length level.boxes
  pub boxes : (level : PrintedLevel) (b : Owned) → Member level levels → Member b (boxes_in level) → IsBox b.bx

-- a mesh without fault is a mesh over level 0, and its edges are the true overlaps
pub record IsFaultless (p : Fields) (ranks : ℕ) (levels : List PrintedLevel) : Type 0 where
  pub mesh : IsMesh p ranks (all_boxes levels)
  pub base : boxes_at levels 0 ≡ level0_of p ranks
  pub edges : (l : ℕ) (level : PrintedLevel) → slice_get levels l ≡ Some level → map as_due level.edges ≡ told_overlaps p levels l

abbrev pub NoFaultIsSound : Type 0
NoFaultIsSound =
    (p : Fields) (ranks : ℕ) (levels : List PrintedLevel) → IsProblem p → 0 < ranks → ArePrinted p levels → mesh_fault p ranks levels ≡ None → IsFaultless p ranks levels

-- a fault is not after another
abbrev pub IsNotAfter : Fault → Fault → Type 0
IsNotAfter f g = (f.line < g.line) ⊎ ((f.line ≡ g.line) × (f.kind ≤ g.kind))

-- the first of some faults is one of them, and comes before each of them by line, then by kind
pub record IsFirst (faults : List (Option Fault)) (f : Fault) : Type 0 where
  pub one : Member (Some f) faults
  pub least : (g : Fault) → Member (Some g) faults → IsNotAfter f g

abbrev pub FirstIsFirst : Type 0
FirstIsFirst = (faults : List (Option Fault)) (f : Fault) → first_of faults ≡ Some f → IsFirst faults f
