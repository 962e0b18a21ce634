-- The run: its stretches put together, its letters and the labels that each rank visits.
use Rattle.std.specs.Prelude.{ℕ, ◌+◌, ◌-◌, List, length, Option, if◌then◌else◌}
use Rattle.samr_stage.specs.declared.label.Name.{Name}
use Rattle.samr_stage.specs.Course.{Course}
use Rattle.samr_stage.specs.Fragments.{Fragment, labels_of, letter_in}
use Rattle.samr_phase.specs.Stretch.{Stretch, at_one, followed, prepared, repeated}
use Rattle.samr_msg.specs.declared.body.Body.{Body}
use Rattle.samr_msg.specs.declared.body.Body.TheVariants.{Buffer, Cover, Report, Decide, Edges, SumUp, TellDown, Up, Down, Home, Modify, Bridge, Values, Ask, Fill, Coarsen}
use Rattle.samr_msg.specs.Runs.{Setting}
use Rattle.samr_msg.specs.Places.{AtStep, AtRegrid, AtPass, AtRound, AtPart, AtLevel, regrid_of, next_pass, after_pass, first_round, not_made}
use Rattle.samr_msg.specs.PassStops.{buffering, covers_told, reports_told, decisions_told, rounds_open, edges_told, sums_told, totals_told, ups_left, downs_left, leaves_cells, boxes_up, boxes_down, pieces_told, pieces_placed, bridged_to_old, bridged_to_itself, bridged_from_above, bridged_to_below, values_told}
use Rattle.samr_msg.specs.StepStops.{cells_asked, first_asked, asks_left, ghosts_told, first_filled, fills_left, under_values_told, first_coarsened, coarsenings_left}

-- rounds of a stretch, from the first, as long as some are left
abbrev pub in_rounds : (AtRound → ℕ) → Stretch AtRound AtRound Body → Stretch AtPass AtPass Body
in_rounds left turn = prepared first_round (repeated (λ w. w) left (λ w. w.at) turn)

-- the tags of a level, the clusters in them with the overlaps, and how many cells the cut leaves of these
abbrev pub tagged : Stretch AtPass AtPass Body
tagged = followed (at_one Buffer buffering) (at_one Cover covers_told)

abbrev pub clustered : Stretch AtPass AtPass Body
clustered = followed (in_rounds rounds_open (followed (at_one Report reports_told) (at_one Decide decisions_told))) (at_one Edges edges_told)

abbrev pub counted : Stretch AtPass AtPass Body
counted = followed (in_rounds ups_left (at_one SumUp sums_told)) (in_rounds downs_left (at_one TellDown totals_told))

-- the new level: its boxes shared out, its overlaps, its values
abbrev pub balanced : Stretch AtPass AtPass Body
balanced = followed (in_rounds ups_left (at_one Up boxes_up)) (followed (in_rounds downs_left (at_one Down boxes_down)) (at_one Home pieces_told))

abbrev pub bridged : Stretch AtPass AtPass Body
bridged =
    followed (followed (at_one Bridge bridged_to_old) (at_one Bridge bridged_to_itself))
    (followed (at_one Bridge bridged_from_above) (at_one Bridge bridged_to_below))

abbrev pub connected : Stretch AtPass AtPass Body
connected = followed (at_one Modify pieces_placed) bridged

abbrev pub renewed : Stretch AtPass AtPart Body
renewed = at_one Values values_told

-- it is made where the cut leaves cells; then the pass is over
abbrev pub part_left : AtPart → ℕ
part_left w = (if leaves_cells w.at then 1 else 0) - w.turns

abbrev pub made : Stretch AtPass AtRegrid Body
made = prepared not_made (repeated (λ w. w.at) part_left (λ w. after_pass w.at) (followed balanced (followed connected renewed)))

-- a pass, a regrid with the plans, a step, and the whole run
abbrev pub passed : Stretch AtPass AtRegrid Body
passed = followed (followed tagged clustered) (followed counted made)

abbrev pub passes_left : AtRegrid → ℕ
passes_left w = length w.left

abbrev pub regridded : Stretch AtStep AtStep Body
regridded = prepared regrid_of (repeated next_pass passes_left (λ w. w.at) passed)

abbrev pub in_levels : (AtStep → AtLevel) → (AtLevel → ℕ) → Stretch AtLevel AtLevel Body → Stretch AtStep AtStep Body
in_levels first left turn = prepared first (repeated (λ w. w) left (λ w. w.at) turn)

abbrev pub planned : Stretch AtStep AtStep Body
planned = followed regridded (in_levels first_asked asks_left (at_one Ask cells_asked))

abbrev pub advanced : Stretch AtStep AtStep Body
advanced =
    followed (in_levels first_filled fills_left (at_one Fill ghosts_told))
    (in_levels first_coarsened coarsenings_left (at_one Coarsen under_values_told))

abbrev pub next_step : AtStep → AtStep
next_step w = record { setting = w.setting; step = w.step + 1 }

abbrev pub steps_left : AtStep → ℕ
steps_left w = w.setting.problem.steps - w.step

abbrev pub whole_run : Stretch AtStep AtStep Body
whole_run = followed planned (repeated next_step steps_left (λ w. w) (followed planned advanced))

abbrev pub beginning : Setting → AtStep
beginning s = record { setting = s; step = 0 }

unfoldable pub fragments_of : Setting → List (Fragment Body)
fragments_of s = whole_run.fragments (beginning s)

unfoldable pub letter_of : Setting → Name → Option Body
letter_of s = letter_in (fragments_of s)

abbrev pub course_of : Setting → Course Body
course_of s = record { ranks = s.ranks; labels = λ rank. labels_of rank (fragments_of s); letter = letter_of s }
