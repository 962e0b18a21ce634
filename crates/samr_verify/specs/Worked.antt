-- Meshes of two small problems, worked by hand, and the first fault of each.
use Rattle.std.specs.Prelude.{◌≡◌, ℕ, pos, Option, Some, None, List, [], ◌∷◌, map, length, ◌+◌, ◌-◌}
use Rattle.std.specs.List.{enumerate_from}
use Rattle.samr_level.specs.Refs.{Owned, Link, link}
use Rattle.samr_report.specs.Numbers.{flat, plane_box, two_fields, four, two_levels, level_0, east, west}
use Rattle.samr_verify.specs.declared.fault.Fault.{Fault}
use Rattle.samr_verify.specs.declared.printed.PrintedBox.{PrintedBox}
use Rattle.samr_verify.specs.declared.printed.PrintedEdge.{PrintedEdge}
use Rattle.samr_verify.specs.declared.printed.PrintedLevel.{PrintedLevel}
use Rattle.samr_verify.specs.MeshFaults.{mesh_fault}

abbrev pub here : Owned → Owned → Link
here a b = link a b (flat (pos 0) (pos 0) (pos 0))

abbrev pub at_line : ℕ × Owned → PrintedBox
at_line e = record { line = e.0; at = e.1 }

abbrev pub edge_at : ℕ × (ℕ × Link) → PrintedEdge
edge_at e = record { line = e.0; to_level = e.1.0; edge = e.1.1 }

abbrev pub level_at : ℕ → ℕ → ℕ → List Owned → List (ℕ × Link) → ℕ → PrintedLevel
level_at line boxes_told cells_told boxes edges after = record {
  line = line;
  boxes_told = boxes_told;
  cells_told = cells_told;
  boxes = map at_line (enumerate_from (line + 1) boxes);
  edges = map edge_at (enumerate_from (after - length edges) edges);
  after = after;
}

abbrev pub lower : PrintedLevel
lower = level_at 3 1 64 (level_0 ∷ []) ((0, here level_0 level_0) ∷ (1, here level_0 east) ∷ (1, here level_0 west) ∷ []) 8

abbrev pub upper : List Owned → PrintedLevel
upper boxes = level_at 9 2 16 boxes
    ((1, here east east) ∷ (1, here east west) ∷ (1, here west east) ∷ (1, here west west) ∷ (0, here east level_0) ∷ (0, here west level_0) ∷ []) 18

abbrev pub fault_of : ℕ → ℕ → Option Fault
fault_of kind line = Some (record { kind = kind; line = line })

pub record WorkedFaults : Type 0 where
  pub sound : mesh_fault two_fields 1 (level_at 3 1 4 (four ∷ []) ((0, here four four) ∷ []) 6 ∷ []) ≡ None
  pub no_edge : mesh_fault two_fields 1 (level_at 3 1 4 (four ∷ []) [] 5 ∷ []) ≡ fault_of 6 5
  pub longer : mesh_fault two_fields 1 (level_at 3 1 4 (plane_box 0 (pos 0) (pos 0) (pos 1) (pos 2) ∷ []) ((0, here four four) ∷ []) 6 ∷ []) ≡ fault_of 4 3
  pub two_sound : mesh_fault two_levels 2 (lower ∷ upper (east ∷ west ∷ []) ∷ []) ≡ None
  pub turned : mesh_fault two_levels 2 (lower ∷ upper (west ∷ east ∷ []) ∷ []) ≡ fault_of 3 11
  pub at_border : mesh_fault two_levels 2 (lower ∷ upper (east ∷ plane_box 1 (pos 16) (pos 6) (pos 17) (pos 9) ∷ []) ∷ []) ≡ fault_of 6 7
