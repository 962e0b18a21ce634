-- The answer to a text: the first fault of its form, or of what it tells.
use Rattle.std.specs.Prelude.{◌≡◌, ℕ, ◌+◌, ◌≤◌, ◌^◌, ◌==◌, Bool, Option, Some, None, List, [], ◌∷◌, ◌++◌, map, length, sum_by, if◌then◌else◌}
use Rattle.std.specs.List.{enumerate_from}
use Rattle.samr_box.specs.Lists.{Member}
use Rattle.samr_problem.specs.Fields.{Fields}
use Rattle.samr_problem.specs.Problems.{IsProblem}
use Rattle.samr_verify.specs.ReportLines.{line_text}
use Rattle.samr_verify.specs.Soundness.{IsFaultless}
use Rattle.samr_verify.specs.declared.fault.Fault.{Fault}
use Rattle.samr_verify.specs.declared.printed.PrintedLevel.{PrintedLevel}
use Rattle.samr_verify.specs.Faults.{first_of}
use Rattle.samr_verify.specs.MeshFaults.{mesh_fault}
use Rattle.samr_verify.specs.declared.line.Line.{Line}
use Rattle.samr_verify.specs.declared.place.Place.TheVariants.{Begun}
use Rattle.samr_verify.specs.Cutting.{lines_of, AreMeanings}
use Rattle.samr_verify.specs.Gathering.{is_headed as is_headed_by, nothing, gathered}
use Rattle.samr_verify.specs.Standing.{told}
use Rattle.samr_verify.specs.declared.verdict.Verdict.{Verdict}
use Rattle.samr_verify.specs.declared.verdict.Verdict.TheVariants.{Sound, Fault as Unsound}
use Rattle.samr_verify.specs.Form.{LevelPart, StepPart, Report, level_lines, step_lines, report_lines, IsReport, form_fault}

-- a level whose line has this number, and levels from one with this number on
abbrev pub printed_level : ℕ → ℕ × LevelPart → PrintedLevel
printed_level n e = record {
  line = n;
  boxes_told = e.1.boxes_told;
  cells_told = e.1.cells_told;
  boxes = map (λ b. record { line = b.0; at = b.1 }) (enumerate_from (n + 1) e.1.boxes);
  edges = map (λ d. record { line = d.0; to_level = d.1.0; edge = d.1.1 }) (enumerate_from (n + 1 + length e.1.boxes) e.1.edges);
  after = n + 1 + length e.1.boxes + length e.1.edges;
}

abbrev pub printed_levels : ℕ → List (ℕ × LevelPart) → List PrintedLevel
printed_levels n [] = []
printed_levels n (e ∷ es) = printed_level n e ∷ printed_levels (n + length (level_lines e)) es

-- the mesh parts of steps of which the first begins at the line with this number
abbrev pub mesh_at : ℕ → StepPart → List (List PrintedLevel)
mesh_at n part = if length part.levels == 0 then [] else printed_levels (n + 1) (enumerate_from 0 part.levels) ∷ []

abbrev pub meshes_from : ℕ → List (ℕ × StepPart) → List (List PrintedLevel)
meshes_from n [] = []
meshes_from n (e ∷ es) = mesh_at n e.1 ++ meshes_from (n + length (step_lines e)) es

abbrev pub meshes : Report → List (List PrintedLevel)
meshes r = meshes_from 2 (enumerate_from 0 r.steps)

-- kind 2, and all together
abbrev pub is_headed : Fields → Report → Bool
is_headed p r = is_headed_by p r.ranks r.levels r.width

abbrev pub report_fault : Fields → Report → Option Fault
report_fault p r = if is_headed p r then first_of (map (mesh_fault p r.ranks) (meshes r)) else Some (record { kind = 2; line = 1 })

abbrev pub verdict_by : Option Fault → List (List PrintedLevel) → Verdict
verdict_by (Some f) ms = Unsound f.kind f.line
verdict_by None ms = Sound (length ms) (sum_by (λ m. sum_by (λ l. length l.boxes) m) ms) (sum_by (λ m. sum_by (λ l. length l.edges) m) ms)

abbrev pub verdict : Fields → Report → Verdict
verdict p r = verdict_by (report_fault p r) (meshes r)

-- the answer
pub record IsVerdict (p : Fields) (text : List ℕ) (v : Verdict) : Type 0 where
  pub lines : List (Option Line)
  pub meant : AreMeanings p.levels (lines_of text) lines
  pub ill_formed : (n : ℕ) → form_fault p Begun 1 lines ≡ Some n → v ≡ Unsound 1 n
  pub formed : (r : Report) → form_fault p Begun 1 lines ≡ None → IsReport p r → map (λ (l : Line). Some l) (report_lines r) ≡ lines → v ≡ verdict p r

-- what the lines of a report tell, gathered line by line, is the verdict on it
abbrev pub ReportsAreTold : Type 0
ReportsAreTold = (p : Fields) (r : Report) → IsReport p r → told (gathered p nothing 1 (map (λ l. Some l) (report_lines r))) ≡ verdict p r

-- a text has one verdict
abbrev pub VerdictsAreOne : Type 0
VerdictsAreOne = (p : Fields) (text : List ℕ) (v w : Verdict) → p.levels ≤ 2 ^ 63 → IsVerdict p text v → IsVerdict p text w → v ≡ w

-- the promise of a text without fault: it is the text of a report, each of whose meshes is one of the problem with exactly its true overlaps
pub record IsSoundText (p : Fields) (text : List ℕ) : Type 0 where
  pub report : Report
  pub form : IsReport p report
  pub lines : lines_of text ≡ map line_text (report_lines report)
  pub meshes_sound : (mesh : List PrintedLevel) → Member mesh (meshes report) → IsFaultless p report.ranks mesh

abbrev pub SoundTextsAreSound : Type 0
SoundTextsAreSound =
    (p : Fields) (text : List ℕ) (m b e : ℕ) → IsProblem p → IsVerdict p text (Sound m b e) → IsSoundText p text
