use Rattle.std.proofs.Common.{◌≡◌, take, map}
use Rattle.samr_bridge.specs.BridgeRow.{about}
use Rattle.samr_bridge.proofs.bridge.BridgeStage.letters.Given as goal

abbrev pub invariant-each : goal.invariant-each
invariant-each l = l.letters.items ≡ map (λ to. (to, about to l.fn.self.found.items)) (take l.to-index l.to-items)
