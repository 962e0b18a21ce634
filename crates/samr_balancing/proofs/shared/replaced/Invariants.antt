use Rattle.std.proofs.Common.{◌≡◌, take, map}
use Rattle.samr_balancing.specs.Shares.{moved}
use Rattle.samr_balancing.proofs.shared.replaced.Given as goal

abbrev pub invariant-loop-cut : goal.invariant-loop-cut
invariant-loop-cut l = l.moves.items ≡ map (moved l.mapping) (take l.cut-index l.cuts)
