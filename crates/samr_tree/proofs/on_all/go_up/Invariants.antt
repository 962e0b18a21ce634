use Rattle.std.proofs.Common.{length}
use Rattle.samr_tree.specs.TreeSum.{sums_at}
use Rattle.samr_tree.specs.OnAll.{AreNumbers}
use Rattle.samr_tree.proofs.on_all.go_up.Given as goal

abbrev pub invariant-each : goal.invariant-each
invariant-each l = AreNumbers (sums_at l.values l.round).number (length l.values) l.numbers.items
