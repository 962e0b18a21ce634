use Rattle.std.proofs.Common.{◌≡◌, take, map}
use Rattle.samr_modify.specs.Entries.{told_to}
use Rattle.samr_modify.proofs.modify.ModifyStage.letters.Given as goal

abbrev pub invariant-each : goal.invariant-each
invariant-each l = l.letters.items ≡ map (λ to. (to, told_to to l.fn.self.known.items)) (take l.to-index l.to-items)
