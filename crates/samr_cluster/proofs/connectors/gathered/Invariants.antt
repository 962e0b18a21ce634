use Rattle.std.proofs.Common.{◌≡◌, ◌++◌, take}
use Rattle.std.specs.List.{flat_map}
use Rattle.samr_cluster.proofs.connectors.gathered.Given as goal

abbrev pub invariant-loop-letter : goal.invariant-loop-letter
invariant-loop-letter l = l.all.items ≡ l.fn.found ++ flat_map (λ letter. letter.body) (take l.letter-index l.held)
