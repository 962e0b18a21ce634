use Rattle.std.proofs.Common.{length}
use Rattle.samr_tree.specs.TreeSum.{tellings_at}
use Rattle.samr_tree.specs.OnAll.{AreNumbers}
use Rattle.samr_tree.proofs.on_all.go_down.Given as goal

abbrev pub invariant-each : goal.invariant-each
invariant-each l = AreNumbers (tellings_at l.values l.round).number (length l.values) l.numbers.items
