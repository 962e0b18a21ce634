use Rattle.std.proofs.Common.{◌≡◌, take}
use Rattle.std.specs.List.{flat_map}
use Rattle.samr_modify.specs.Found.{taken}
use Rattle.samr_modify.proofs.taking.all_taken.Given as goal

abbrev pub invariant-loop-r : goal.invariant-loop-r
invariant-loop-r l = l.out.items ≡ flat_map (λ r. taken l.ruler l.rank r) (take l.r-index l.known)
