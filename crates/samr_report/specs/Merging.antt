-- Lines that each rank has for its own boxes, and the whole text: for any kind of line the ranks' lines, in order of rank, are those of the whole level.
use Rattle.std.specs.Prelude.{◌≡◌, ℕ, List}
use Rattle.std.specs.List.{flat_map, range_with_len}
use Rattle.samr_level.specs.Refs.{Owned, Link}
use Rattle.samr_level.specs.Regions.{Area}
use Rattle.samr_level.specs.Levels.{IsLevel, own}
use Rattle.samr_level.specs.Overlaps.{Scale, true_overlaps, of_rank}
use Rattle.samr_sched.specs.Ask.{Scheduling}
use Rattle.samr_sched.specs.PlanRows.{rows_of}
use Rattle.samr_report.specs.ScheduleLines.{row_line, row_lines}

-- of a level's boxes
abbrev pub BoxLinesMerge : Type 0
BoxLinesMerge =
    (lines : Owned → List ℕ) (area : Area) (ranks : ℕ) (level : List Owned) → IsLevel area ranks level
    → flat_map (λ r. flat_map lines (own r level)) (range_with_len 0 ranks) ≡ flat_map lines level

-- of its edges to a level
abbrev pub EdgeLinesMerge : Type 0
EdgeLinesMerge =
    (lines : Link → List ℕ) (n : Scale) (area other : Area) (ranks : ℕ) (level heads : List Owned) → IsLevel area ranks level → IsLevel other ranks heads
    → flat_map (λ r. flat_map lines (of_rank r (true_overlaps n level heads))) (range_with_len 0 ranks) ≡ flat_map lines (true_overlaps n level heads)

-- and of its schedule
abbrev pub RowLinesMerge : Type 0
RowLinesMerge =
    (l ranks : ℕ) (area : Area) (w : Scheduling) → IsLevel area ranks w.level
    → flat_map (λ r. flat_map (λ row. row_line l row) (rows_of w r)) (range_with_len 0 ranks) ≡ row_lines l w
