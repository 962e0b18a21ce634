use Rattle.std.proofs.Common.{◌≡◌, ◌++◌, take}
use Rattle.std.specs.List.{flat_map}
use Rattle.samr_bridge.specs.Search.{pairs_at}
use Rattle.samr_bridge.proofs.search.Search.push_windows.Given as goal

abbrev pub invariant-loop-s : goal.invariant-loop-s
invariant-loop-s l = l.out.items ≡ l.fn.out.items ++ flat_map (λ s. pairs_at l.self.ruler l.self.heads l.self.to_west.now l.fn.a s) (take l.s-index l.s-items)
