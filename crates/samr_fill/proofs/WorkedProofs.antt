-- The worked rows, by computing the definition.
use Rattle.std.proofs.Common.{refl}
use Rattle.samr_fill.specs.Fill.{value_of}
use Rattle.samr_fill.specs.Worked.{ValuesOfRows}

pub values_of_rows : ValuesOfRows
unfolding value_of
values_of_rows = record {
  under_coarse = refl;
  of_the_other_box = refl;
  beyond_i = refl;
  beyond_j = refl;
  beyond_the_last_j = refl;
  between_parts = refl;
  of_the_other_part = refl;
}
