use Rattle.std.proofs.Common.{◌≡◌, take}
use Rattle.std.specs.List.{flat_map}
use Rattle.samr_modify.specs.Found.{if_leaves}
use Rattle.samr_counting.proofs.cutting.leaving.Given as goal

abbrev pub invariant-loop-e : goal.invariant-loop-e
invariant-loop-e l = l.near.items ≡ flat_map (λ e. if_leaves l.fn.b e) (take l.e-index l.edges)
