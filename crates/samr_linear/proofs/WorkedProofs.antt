-- The worked rows, by computing.
use Rattle.std.proofs.Common.{refl}
use Rattle.samr_data.specs.Places.{cells_in, place, cell_at}
use Rattle.samr_fill.specs.Fill.{value_of}
use Rattle.samr_values.specs.Values.{new_value}
use Rattle.samr_linear.specs.Lin.{lin, share_on, share}
use Rattle.samr_linear.specs.LinVal.{linear_value}
use Rattle.samr_linear.specs.Worked.{LinearNumbers, LinRow, rule_of_row}

pub linear_numbers : LinearNumbers
unfolding cells_in place cell_at value_of new_value lin share_on share linear_value
linear_numbers = record { coarse = refl; east_of = refl; west_of = refl }

pub lin_row : LinRow rule_of_row
unfolding lin share_on share
lin_row = record { first = refl; second = refl; third = refl; fourth = refl }
