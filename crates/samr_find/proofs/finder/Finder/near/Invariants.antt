use Rattle.std.proofs.Common.{◌≡◌, take}
use Rattle.std.specs.List.{flat_map}
use Rattle.samr_find.specs.Buckets.{found_in}
use Rattle.samr_find.proofs.finder.Finder.near.Given as goal

abbrev pub invariant-loop-number : goal.invariant-loop-number
invariant-loop-number l = l.out.items ≡ flat_map (λ c. found_in l.self l.b c) (take l.number-index l.number-items)
