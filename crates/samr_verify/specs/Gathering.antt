-- What the lines of a report tell of its meshes, line by line.
use Rattle.std.specs.Prelude.{ℕ, ◌+◌, ◌<◌, ◌==◌, ◌&&◌, nat_lt, nat_le, Bool, Option, Some, None, List, [], ◌∷◌, ◌++◌, length, if◌then◌else◌}
use Rattle.std.specs.Option.{option_map}
use Rattle.samr_box.specs.declared.vector.IVec.{IVec}
use Rattle.samr_box.specs.Vector.{at_most}
use Rattle.samr_level.specs.Refs.{Owned, Link}
use Rattle.samr_problem.specs.Fields.{Fields}
use Rattle.samr_verify.specs.declared.fault.Fault.{Fault}
use Rattle.samr_verify.specs.declared.gathering.Gathered.{Gathered}
use Rattle.samr_verify.specs.declared.line.Line.{Line}
use Rattle.samr_verify.specs.declared.line.Line.TheVariants.{First, Step, LevelOf, BoxOf, EdgeOf, End}
use Rattle.samr_verify.specs.declared.printed.PrintedLevel.{PrintedLevel}
use Rattle.samr_verify.specs.Faults.{or_earlier}
use Rattle.samr_verify.specs.MeshFaults.{mesh_fault}

abbrev pub nothing : Gathered
nothing = record { ranks = None; fault = None; meshes = 0; boxes = 0; edges = 0; levels = []; level = None }

-- a first line is that of a report of the problem on 1 to 16 ranks
abbrev pub is_headed : Fields → ℕ → ℕ → IVec → Bool
is_headed p ranks levels width = nat_lt 0 ranks && (nat_lt ranks 17 && ((levels == p.levels) && (at_most width p.width && at_most p.width width)))

abbrev pub ranks_of : Fields → ℕ → ℕ → IVec → Option ℕ
ranks_of p ranks levels width = if is_headed p ranks levels width then Some ranks else None

-- a level whose line has this number, and a level with a box or an edge more
abbrev pub begun : ℕ → ℕ → ℕ → PrintedLevel
begun n boxes cells = record { line = n; boxes_told = boxes; cells_told = cells; boxes = []; edges = []; after = n + 1 }

abbrev pub with_box : PrintedLevel → ℕ → Owned → PrintedLevel
with_box v n b = record {
  line = v.line;
  boxes_told = v.boxes_told;
  cells_told = v.cells_told;
  boxes = v.boxes ++ record { line = n; at = b } ∷ [];
  edges = v.edges;
  after = n + 1;
}

abbrev pub with_edge : PrintedLevel → ℕ → ℕ → Link → PrintedLevel
with_edge v n m e = record {
  line = v.line;
  boxes_told = v.boxes_told;
  cells_told = v.cells_told;
  boxes = v.boxes;
  edges = v.edges ++ record { line = n; to_level = m; edge = e } ∷ [];
  after = n + 1;
}

-- the levels of a mesh with its last one, and what is found in it
abbrev pub joined : List PrintedLevel → Option PrintedLevel → List PrintedLevel
joined levels None = levels
joined levels (Some level) = levels ++ level ∷ []

abbrev pub checked : Fields → Option ℕ → List PrintedLevel → Option Fault
checked p None levels = None
checked p (Some ranks) levels = if nat_le (length levels) p.levels then mesh_fault p ranks levels else None

-- a mesh has ended, if one went on
abbrev pub ended_by : Fields → Gathered → List PrintedLevel → Gathered
ended_by p g [] = record g { levels = []; level = None }
ended_by p g (v ∷ vs) = record g { fault = or_earlier g.fault (checked p g.ranks (v ∷ vs)); meshes = g.meshes + 1; levels = []; level = None }

unfoldable pub ended : Fields → Gathered → Gathered
ended p g = ended_by p g (joined g.levels g.level)

-- with a line more, and with lines from one with this number on
unfoldable pub taken : Fields → Gathered → ℕ → Line → Gathered
taken p g n (First ranks levels width) = record g { ranks = ranks_of p ranks levels width }
taken p g n (Step t) = ended p g
taken p g n (LevelOf l boxes cells) = record g { levels = joined g.levels g.level; level = Some (begun n boxes cells) }
taken p g n (BoxOf l b) = record g { boxes = g.boxes + 1; level = option_map (λ v. with_box v n b) g.level }
taken p g n (EdgeOf l m e) = record g { edges = g.edges + 1; level = option_map (λ v. with_edge v n m e) g.level }
taken p g n End = ended p g
taken p g n _ = g

unfoldable pub gathered : Fields → Gathered → ℕ → List (Option Line) → Gathered
gathered p g n [] = g
gathered p g n (None ∷ os) = gathered p g (n + 1) os
gathered p g n (Some line ∷ os) = gathered p (taken p g n line) (n + 1) os

-- of each there are fewer than a number
pub record Fewer (g : Gathered) (n : ℕ) : Type 0 where
  pub meshes : g.meshes < n
  pub boxes : g.boxes < n
  pub edges : g.edges < n
