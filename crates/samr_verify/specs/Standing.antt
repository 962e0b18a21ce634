-- What is known behind some lines of a text: where a report stands, and what its lines tell.
use Rattle.std.specs.Prelude.{ℕ, Option, Some, None, Result, Ok, Err, if◌then◌else◌}
use Rattle.samr_problem.specs.Fields.{Fields}
use Rattle.samr_verify.specs.declared.fault.Fault.{Fault}
use Rattle.samr_verify.specs.declared.gathering.Gathered.{Gathered}
use Rattle.samr_verify.specs.declared.line.Line.{Line}
use Rattle.samr_verify.specs.declared.place.Place.{Place}
use Rattle.samr_verify.specs.declared.verdict.Verdict.{Verdict}
use Rattle.samr_verify.specs.declared.verdict.Verdict.TheVariants.{Sound, Fault as Unsound}
use Rattle.samr_verify.specs.Form.{is_ended, meant}
use Rattle.samr_verify.specs.Gathering.{taken}

-- the place of a report behind a line, or the number of the first line that may not stand where it does
abbrev pub moved_to : Option Place → ℕ → Result Place ℕ
moved_to None n = Err n
moved_to (Some place) n = Ok place

abbrev pub stand : Fields → Result Place ℕ → ℕ → Option Line → Result Place ℕ
stand p (Err amiss) n o = Err amiss
stand p (Ok place) n o = moved_to (meant p place o) n

-- what the lines tell, as long as each may stand where it does
abbrev pub gathered_on : Fields → Result Place ℕ → Gathered → ℕ → Option Line → Gathered
gathered_on p (Err amiss) g n o = g
gathered_on p (Ok place) g n None = g
gathered_on p (Ok place) g n (Some line) = taken p g n line

-- the line of the fault of form at the end, before a line with this number
abbrev pub end_fault : Result Place ℕ → ℕ → Option ℕ
end_fault (Err amiss) n = Some amiss
end_fault (Ok place) n = if is_ended place then None else Some n

-- the verdict on a report of the right form, and on a text
abbrev pub told_by : Option ℕ → Option Fault → Gathered → Verdict
told_by None o g = Unsound 2 1
told_by (Some ranks) (Some f) g = Unsound f.kind f.line
told_by (Some ranks) None g = Sound g.meshes g.boxes g.edges

abbrev pub told : Gathered → Verdict
told g = told_by g.ranks g.fault g

abbrev pub concluded_by : Option ℕ → Gathered → Verdict
concluded_by (Some amiss) g = Unsound 1 amiss
concluded_by None g = told g

abbrev pub concluded : Result Place ℕ → ℕ → Gathered → Verdict
concluded standing n g = concluded_by (end_fault standing n) g
