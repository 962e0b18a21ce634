use Rattle.std.proofs.Common.{◌≡◌, take}
use Rattle.std.specs.List.{flat_map}
use Rattle.samr_find.specs.Places.{meeting}
use Rattle.samr_bridge.specs.Search.{window}
use Rattle.samr_verify.proofs.nearby.windowed.Given as goal

abbrev pub invariant-loop-s : goal.invariant-loop-s
invariant-loop-s l = l.out.items ≡ flat_map (λ s. meeting l.all (window l.reach l.fn.a s)) (take l.s-index l.shifts)
