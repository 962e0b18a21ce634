use Rattle.std.proofs.Common.{◌≡◌}
use Rattle.samr_stage.specs.Row.{told}
use Rattle.samr_balance.specs.HomeRow.{line_of}
use Rattle.samr_balance.proofs.home.HomeStage.letters.Given as goal

abbrev pub invariant-each : goal.invariant-each
invariant-each l = l.letters.items ≡ told (line_of l.fn.self.pieces.items l.fn.self.rank) l.to
