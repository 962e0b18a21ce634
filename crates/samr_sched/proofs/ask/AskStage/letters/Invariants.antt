use Rattle.std.proofs.Common.{◌≡◌, take, map}
use Rattle.samr_sched.specs.PlansOfParts.{requests_by}
use Rattle.samr_sched.proofs.ask.AskStage.letters.Given as goal

abbrev pub invariant-each : goal.invariant-each
invariant-each l = l.letters.items ≡ map (λ to. (to, requests_by l.fn.self.boxes.items to)) (take l.to-index l.to-items)
