use Rattle.std.proofs.Common.{◌≡◌, ◌++◌}
use Rattle.samr_fill.proofs.fill.push_parcels.Given as goal

abbrev pub invariant-loop-parcel : goal.invariant-loop-parcel
invariant-loop-parcel l = l.parcels.items ≡ l.fn.parcels.items ++ l.yielded
