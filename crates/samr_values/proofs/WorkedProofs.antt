-- The worked rows, by computing the definitions.
use Rattle.std.proofs.Common.{refl}
use Rattle.samr_data.specs.Places.{cells_in, place, cell_at}
use Rattle.samr_values.specs.Values.{new_value}
use Rattle.samr_values.specs.Worked.{ValuesOfRows}

pub values_of_rows : ValuesOfRows
unfolding new_value cells_in place cell_at
values_of_rows = record {
  of_the_coarse_cell = refl;
  of_the_next_row = refl;
  of_the_other_box = refl;
  of_its_last_cell = refl;
  on_a_ramp = refl;
  of_the_old_level = refl;
  beside_the_old_level = refl;
  first_of_four = refl;
  greatest_of_four = refl;
  sum_of_four = refl;
  sum_modulo = refl;
  not_under = refl;
  in_a_ghost_cell = refl;
}
