use Rattle.std.proofs.Common.{◌≡◌, take, map}
use Rattle.samr_linear.proofs.letters.ranks_of.Given as goal

abbrev pub invariant-loop-asked : goal.invariant-loop-asked
invariant-loop-asked l = l.ranks.items ≡ map (λ a. a.rank) (take l.asked-index l.others)
