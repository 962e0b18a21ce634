use Rattle.std.proofs.Common.{◌≡◌, take, map}
use Rattle.samr_tags.specs.Seeing.{told_to}
use Rattle.samr_tags.proofs.buffer.BufferStage.letters.Given as goal

abbrev pub invariant-each : goal.invariant-each
invariant-each l = l.letters.items ≡ map (λ to. (to, told_to to l.fn.self.own.items)) (take l.to-index l.to-items)
