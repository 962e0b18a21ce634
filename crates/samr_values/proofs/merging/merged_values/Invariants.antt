use Rattle.std.proofs.Common.{◌≡◌, take}
use Rattle.samr_data.specs.Grids.{value_at}
use Rattle.samr_data.specs.Values.{listed}
use Rattle.samr_values.specs.Merging.{merged_by}
use Rattle.samr_values.proofs.merging.merged_values.Given as goal

abbrev pub invariant-loop-n : goal.invariant-loop-n
invariant-loop-n l = l.values.items ≡ take l.n (listed l.region (merged_by l.m (value_at l.patch)))
