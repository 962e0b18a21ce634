use Rattle.std.proofs.Common.{◌≡◌, take}
use Rattle.samr_level.specs.Neighbours.{found}
use Rattle.samr_level.proofs.layout.Layout.edges.Given as goal

abbrev pub invariant-loop-a : goal.invariant-loop-a
invariant-loop-a l = l.edges.items ≡ found l.self (take l.a-index l.bases) l.shifts
