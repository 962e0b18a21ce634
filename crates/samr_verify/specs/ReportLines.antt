-- The lines of a report, and what a line means: it is the text that the report prints of it.
use Rattle.std.specs.Prelude.{◌≡◌, ℕ, ◌<◌, ◌≤◌, ◌^◌, pos, negsuc, Option, Some, None, List, [], ◌∷◌, ◌++◌, codes}
use Rattle.samr_box.specs.Vector.{alike, AtMost, Between, IsShift}
use Rattle.samr_level.specs.Refs.{Owned}
use Rattle.samr_sched.specs.declared.row.Row.{Row}
use Rattle.samr_sched.specs.declared.row.Row.TheVariants.{Copy, Coarse, Outside}
use Rattle.samr_report.specs.Lines.{part, line}
use Rattle.samr_verify.specs.declared.line.Line.{Line}
use Rattle.samr_verify.specs.declared.line.Line.TheVariants.{First, Step, LevelOf, BoxOf, EdgeOf, RowOf, SumOf, ProbeOf, End}
use Rattle.samr_verify.specs.declared.line.PrintedRow.{PrintedRow}
use Rattle.samr_verify.specs.declared.line.PrintedRow.TheVariants.{FromLevel, FromBelow, FromOutside}
use Rattle.samr_report.specs.LevelLines.{box_numbers, box_line, edge_line}
use Rattle.samr_report.specs.ScheduleLines.{headed, row_line}
use Rattle.samr_report.specs.RankRows.{told_value}

-- the row that a line of a schedule prints
abbrev pub as_row : PrintedRow → Row
as_row (FromLevel f base head shift n) = Copy f base head shift n
as_row (FromBelow f base head shift n) = Coarse f base head shift n
as_row (FromOutside f base n) = Outside f base n

unfoldable pub line_text : Line → List ℕ
line_text (First ranks levels width) =
    part (codes "samr ranks") (pos ranks ∷ []) ++ part (codes " levels") (pos levels ∷ []) ++ line (codes " width") (width.i ∷ width.j ∷ width.k ∷ [])
line_text (Step t) = line (codes "step") (pos t ∷ [])
line_text (LevelOf l boxes cells) = part (codes "level") (pos l ∷ []) ++ part (codes " boxes") (pos boxes ∷ []) ++ line (codes " cells") (pos cells ∷ [])
line_text (BoxOf l b) = box_line l b
line_text (EdgeOf l m e) = edge_line l m e
line_text (RowOf l row) = row_line l (as_row row)
line_text (SumOf f l b v) = headed f (codes "sum") l ++ part [] (box_numbers b) ++ line [] (pos v ∷ [])
line_text (ProbeOf f n v) = headed f (codes "probe") n ++ told_value v
line_text End = line (codes "end") []

-- the ranges of the numbers of a line
abbrev pub IsCount : ℕ → Type 0
IsCount n = n < 2 ^ 63

pub record IsPrinted (b : Owned) : Type 0 where
  pub owner : b.owner < 2 ^ 16
  pub low : AtMost (alike (negsuc 1073741822)) b.bx.lo
  pub order : AtMost b.bx.lo b.bx.hi
  pub high : AtMost b.bx.hi (alike (pos 1073741823))

abbrev pub IsRow : PrintedRow → Type 0
IsRow (FromLevel f base head shift n) = IsCount f × IsPrinted base × IsPrinted head × IsShift shift × IsCount n
IsRow (FromBelow f base head shift n) = IsCount f × IsPrinted base × IsPrinted head × IsShift shift × IsCount n
IsRow (FromOutside f base n) = IsCount f × IsPrinted base × IsCount n

abbrev pub IsValue : Option ℕ → Type 0
IsValue None = Unit {0}
IsValue (Some v) = IsCount v

-- a line of a report with at most so many levels
abbrev pub IsLine : ℕ → Line → Type 0
IsLine most (First ranks levels width) = IsCount ranks × IsCount levels × Between (alike (pos 0)) width (alike (pos 9223372036854775807))
IsLine most (Step t) = IsCount t
IsLine most (LevelOf l boxes cells) = IsCount l × IsCount boxes × IsCount cells
IsLine most (BoxOf l b) = IsCount l × IsPrinted b
IsLine most (EdgeOf l m e) = (l < most) × (m < most) × IsPrinted e.base × IsPrinted e.head × IsShift e.shift
IsLine most (RowOf l row) = IsCount l × IsRow row
IsLine most (SumOf f l b v) = IsCount f × IsCount l × IsPrinted b × IsCount v
IsLine most (ProbeOf f n v) = IsCount f × IsCount n × IsValue v
IsLine most End = Unit {0}

-- the meaning of a line of text, if it has one
abbrev pub IsMeaning : ℕ → List ℕ → Option Line → Type 0
IsMeaning most text (Some l) = IsLine most l × (text ≡ line_text l)
IsMeaning most text None = (l : Line) → IsLine most l → text ≡ line_text l → ⊥

-- a text means one line at most
abbrev pub MeaningsAreOne : Type 0
MeaningsAreOne = (most : ℕ) (text : List ℕ) (a b : Line) → most ≤ 2 ^ 63 → IsMeaning most text (Some a) → IsMeaning most text (Some b) → a ≡ b
