use Rattle.std.proofs.Common.{◌≡◌, ◌++◌}
use Rattle.samr_linear.proofs.linear_fill.push_parcels.Given as goal

abbrev pub invariant-loop-parcel : goal.invariant-loop-parcel
invariant-loop-parcel l = l.parcels.items ≡ l.fn.parcels.items ++ l.yielded
