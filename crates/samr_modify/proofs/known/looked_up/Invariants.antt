use Rattle.std.proofs.Common.{◌≡◌, take, map}
use Rattle.samr_modify.specs.Entries.{entry}
use Rattle.samr_modify.proofs.known.looked_up.Given as goal

abbrev pub invariant-loop-m : goal.invariant-loop-m
invariant-loop-m l = l.known.items ≡ map (λ m. entry l.edges m) (take l.m-index l.moves)
