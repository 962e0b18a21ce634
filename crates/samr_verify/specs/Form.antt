-- The form of a report: what may follow what.
use Rattle.std.specs.Prelude.{◌≡◌, ℕ, ◌+◌, ◌<◌, ◌≤◌, ◌==◌, ◌&&◌, nat_lt, nat_le, Bool, true, false, Option, Some, None, List, [], ◌∷◌, ◌++◌, map, length, if◌then◌else◌}
use Rattle.std.specs.List.{flat_map, enumerate_from}
use Rattle.samr_box.specs.declared.vector.IVec.{IVec}
use Rattle.samr_box.specs.Lists.{Member}
use Rattle.samr_level.specs.Refs.{Owned, Link}
use Rattle.samr_problem.specs.Fields.{Fields}
use Rattle.samr_report.specs.Report.{is_told}
use Rattle.samr_verify.specs.declared.line.Line.{Line}
use Rattle.samr_verify.specs.declared.line.Line.TheVariants.{First, Step, LevelOf, BoxOf, EdgeOf, RowOf, SumOf, ProbeOf, End}
use Rattle.samr_verify.specs.declared.line.PrintedRow.{PrintedRow}
use Rattle.samr_verify.specs.declared.place.Place.{Place}
use Rattle.samr_verify.specs.declared.place.Place.TheVariants.{Begun, Headed, Stepped, Levelled, Boxed, Edged, Listed, Summed, Probed, Ended}

-- a part of a level, of a step, and a report
pub record LevelPart : Type 0 where
  pub boxes_told : ℕ
  pub cells_told : ℕ
  pub boxes : List Owned
  pub edges : List (ℕ × Link)
  pub rows : List PrintedRow

pub record StepPart : Type 0 where
  pub levels : List LevelPart
  pub sums : List Line
  pub probes : List Line

pub record Report : Type 0 where
  pub ranks : ℕ
  pub levels : ℕ
  pub width : IVec
  pub steps : List StepPart

-- their lines
abbrev pub level_lines : ℕ × LevelPart → List Line
level_lines e =
    LevelOf e.0 e.1.boxes_told e.1.cells_told ∷ map (BoxOf e.0) e.1.boxes ++ map (λ d. EdgeOf e.0 d.0 d.1) e.1.edges ++ map (RowOf e.0) e.1.rows

abbrev pub step_lines : ℕ × StepPart → List Line
step_lines e = Step e.0 ∷ flat_map level_lines (enumerate_from 0 e.1.levels) ++ e.1.sums ++ e.1.probes

abbrev pub report_lines : Report → List Line
report_lines r = First r.ranks r.levels r.width ∷ flat_map step_lines (enumerate_from 0 r.steps) ++ End ∷ []

-- a mesh part exactly where one is due, of one to as many levels as there may be, each with a box
abbrev pub is_sum : Line → Bool
is_sum (SumOf f l b v) = true
is_sum _ = false

abbrev pub is_probe : Line → Bool
is_probe (ProbeOf f n v) = true
is_probe _ = false

pub record IsStepPart (p : Fields) (t : ℕ) (part : StepPart) : Type 0 where
  pub told : is_told p t ≡ true → 0 < length part.levels
  pub silent : is_told p t ≡ false → part.levels ≡ []
  pub few : length part.levels ≤ p.levels
  pub boxes : (level : LevelPart) → Member level part.levels → 0 < length level.boxes
  pub sums : (line : Line) → Member line part.sums → is_sum line ≡ true
  pub probes : (line : Line) → Member line part.probes → is_probe line ≡ true

pub record IsReport (p : Fields) (r : Report) : Type 0 where
  pub steps : length r.steps ≡ p.steps + 1
  pub parts : (e : ℕ × StepPart) → Member e (enumerate_from 0 r.steps) → IsStepPart p e.0 e.1

abbrev pub if_some : {X Y : Type 0} → Option X → (X → Option Y) → Option Y
if_some None f = None
if_some (Some x) f = f x

-- the step whose mesh part is whole there, and the step whose part is
abbrev pub whole_mesh : Fields → Place → Option ℕ
whole_mesh p (Stepped t) = if is_told p t then None else Some t
whole_mesh p (Boxed t l) = Some t
whole_mesh p (Edged t l) = Some t
whole_mesh p (Listed t l) = Some t
whole_mesh p (Summed t) = Some t
whole_mesh p _ = None

abbrev pub whole_step : Fields → Place → Option ℕ
whole_step p (Probed t) = Some t
whole_step p place = whole_mesh p place

-- the place behind a line, if it may stand there
abbrev pub where_true : Bool → Place → Option Place
where_true test place = if test then Some place else None

abbrev pub begins_step : Fields → ℕ → Place → Option Place
begins_step p t Headed = where_true (t == 0) (Stepped t)
begins_step p t place = if_some (whole_step p place) (λ s. where_true ((t == s + 1) && nat_le t p.steps) (Stepped t))

abbrev pub begins_level : Fields → ℕ → Place → Option Place
begins_level p l (Stepped t) = where_true (is_told p t && ((l == 0) && nat_lt 0 p.levels)) (Levelled t l)
begins_level p l (Boxed t k) = where_true ((l == k + 1) && nat_lt l p.levels) (Levelled t l)
begins_level p l (Edged t k) = where_true ((l == k + 1) && nat_lt l p.levels) (Levelled t l)
begins_level p l (Listed t k) = where_true ((l == k + 1) && nat_lt l p.levels) (Levelled t l)
begins_level p l _ = None

abbrev pub with_box : ℕ → Place → Option Place
with_box l (Levelled t k) = where_true (l == k) (Boxed t k)
with_box l (Boxed t k) = where_true (l == k) (Boxed t k)
with_box l _ = None

abbrev pub with_edge : ℕ → Place → Option Place
with_edge l (Boxed t k) = where_true (l == k) (Edged t k)
with_edge l (Edged t k) = where_true (l == k) (Edged t k)
with_edge l _ = None

abbrev pub with_row : ℕ → Place → Option Place
with_row l (Boxed t k) = where_true (l == k) (Listed t k)
with_row l (Edged t k) = where_true (l == k) (Listed t k)
with_row l (Listed t k) = where_true (l == k) (Listed t k)
with_row l _ = None

abbrev pub if_begun : Place → Option Place
if_begun Begun = Some Headed
if_begun _ = None

unfoldable pub behind : Fields → Place → Line → Option Place
behind p place (First ranks levels width) = if_begun place
behind p place (Step t) = begins_step p t place
behind p place (LevelOf l boxes cells) = begins_level p l place
behind p place (BoxOf l b) = with_box l place
behind p place (EdgeOf l m e) = with_edge l place
behind p place (RowOf l row) = with_row l place
behind p place (SumOf f l b v) = if_some (whole_mesh p place) (λ t. Some (Summed t))
behind p place (ProbeOf f n v) = if_some (whole_step p place) (λ t. Some (Probed t))
behind p place End = if_some (whole_step p place) (λ t. where_true (t == p.steps) Ended)

-- the place behind some lines, and the number of the first line that may not stand where it does; some lines have no meaning
abbrev pub placed : Fields → Place → List Line → Option Place
placed p place [] = Some place
placed p place (line ∷ lines) = if_some (behind p place line) (λ next. placed p next lines)

abbrev pub is_ended : Place → Bool
is_ended Ended = true
is_ended _ = false

abbrev pub meant : Fields → Place → Option Line → Option Place
meant p place o = if_some o (λ line. behind p place line)

abbrev pub next_fault : Option Place → ℕ → (Place → Option ℕ) → Option ℕ
next_fault None n rest = Some n
next_fault (Some place) n rest = rest place

unfoldable pub form_fault : Fields → Place → ℕ → List (Option Line) → Option ℕ
form_fault p place n [] = if is_ended place then None else Some n
form_fault p place n (o ∷ os) = next_fault (meant p place o) n (λ next. form_fault p next (n + 1) os)

-- the fold is the grammar: each report is accepted, and what is accepted is a report
abbrev pub ReportsAreAccepted : Type 0
ReportsAreAccepted = (p : Fields) (r : Report) → 0 < p.levels → IsReport p r → placed p Begun (report_lines r) ≡ Some Ended

abbrev pub AcceptedAreReports : Type 0
AcceptedAreReports = (p : Fields) (lines : List Line) → placed p Begun lines ≡ Some Ended → (r : Report) × IsReport p r × (report_lines r ≡ lines)

-- no line is accepted in vain: from each place that lines lead to there are lines to the end
abbrev pub LinesCanGoOn : Type 0
LinesCanGoOn =
    (p : Fields) (lines : List Line) (place : Place) → 0 < p.levels → placed p Begun lines ≡ Some place → (more : List Line) × (placed p place more ≡ Some Ended)

-- a report has no fault of form
abbrev pub ReportsAreFormed : Type 0
ReportsAreFormed = (p : Fields) (r : Report) → 0 < p.levels → IsReport p r → form_fault p Begun 1 (map (λ l. Some l) (report_lines r)) ≡ None
