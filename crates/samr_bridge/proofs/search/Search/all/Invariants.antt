use Rattle.std.proofs.Common.{◌≡◌, take}
use Rattle.std.specs.List.{flat_map}
use Rattle.samr_bridge.specs.Search.{pairs_by}
use Rattle.samr_bridge.proofs.search.Search.all.Given as goal

abbrev pub invariant-loop-a : goal.invariant-loop-a
invariant-loop-a l = l.out.items ≡ flat_map (λ a. pairs_by l.self.ruler l.self.heads l.self.shifts.items l.self.to_west.now a) (take l.a-index l.to_east)
