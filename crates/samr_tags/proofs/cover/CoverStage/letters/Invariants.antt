use Rattle.std.proofs.Common.{◌≡◌, take, map}
use Rattle.samr_tags.specs.CoverRow.{needed_of}
use Rattle.samr_tags.proofs.cover.CoverStage.letters.Given as goal

abbrev pub invariant-each : goal.invariant-each
invariant-each l = l.letters.items ≡ map (λ to. (to, needed_of l.fn.self.needs to l.fn.self.edges.items)) (take l.to-index l.to-items)
