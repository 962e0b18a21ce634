-- The numbers that were worked by hand, by computing the definitions.
use Rattle.std.proofs.Common.{refl}
use Rattle.samr_data.specs.Places.{cells_in, place, cell_at}
use Rattle.samr_sign.specs.Counts.{weigh, tally}
use Rattle.samr_level.specs.Overlaps.{shifts, true_overlaps}
use Rattle.samr_sched.specs.PlanRows.{ghosts_with, rows_of_box}
use Rattle.samr_fill.specs.Fill.{value_of}
use Rattle.samr_values.specs.Values.{new_value}
use Rattle.samr_report.specs.Numbers.{NumbersOfTwoFields, NumbersOfTwoLevels, NumbersOfMoving}

pub two_fields : NumbersOfTwoFields
unfolding cells_in place cell_at weigh tally shifts true_overlaps ghosts_with rows_of_box value_of new_value
two_fields = record {
  rows = refl;
  first = refl;
  first_of_other = refl;
  second = refl;
  second_of_other = refl;
  probe = refl;
  probe_of_other = refl;
}

pub two_levels : NumbersOfTwoLevels
unfolding cells_in place cell_at weigh tally shifts true_overlaps ghosts_with rows_of_box value_of new_value
two_levels = record { coarse_rows = refl; rows = refl; sum = refl; east_sum = refl; west_sum = refl; edges = refl }

pub moving : NumbersOfMoving
unfolding cells_in place cell_at value_of new_value
moving = record { merged = refl; merged_too = refl; not_merged = refl; at_the_border = refl; round_the_border = refl; of_the_old = refl; of_the_old_too = refl; of_the_new = refl; of_the_new_too = refl; summed = refl; summed_too = refl; reflected = refl; reflected_and_round = refl; other_of_the_old = refl; other_of_the_new = refl }
