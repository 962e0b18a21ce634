use Rattle.std.proofs.Common.{◌≡◌, take, map}
use Rattle.samr_cluster.specs.DecideRow.{rulings_for}
use Rattle.samr_cluster.proofs.decide.DecideStage.letters.Given as goal

abbrev pub invariant-each : goal.invariant-each
invariant-each l = l.letters.items ≡ map (λ to. (to, rulings_for to l.fn.self.judged.items)) (take l.to-index l.to-items)
