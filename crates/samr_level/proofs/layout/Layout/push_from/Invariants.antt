use Rattle.std.proofs.Common.{◌≡◌, ◌++◌, take}
use Rattle.samr_level.specs.Neighbours.{found_from}
use Rattle.samr_level.proofs.layout.Layout.push_from.Given as goal

abbrev pub invariant-loop-s : goal.invariant-loop-s
invariant-loop-s l = l.edges.items ≡ l.fn.edges.items ++ found_from l.self (take l.s-index l.shifts) l.fn.a
