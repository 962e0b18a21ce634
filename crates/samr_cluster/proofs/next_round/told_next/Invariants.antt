use Rattle.std.proofs.Common.{◌≡◌, ◌++◌, take}
use Rattle.std.specs.List.{flat_map}
use Rattle.samr_cluster.specs.Rounds.{from_director}
use Rattle.samr_cluster.specs.DecideRow.{parts_on}
use Rattle.samr_cluster.proofs.next_round.told_next.Given as goal

abbrev pub invariant-loop-h : goal.invariant-loop-h
invariant-loop-h l = l.told.items ≡ from_director l.fn.rank (parts_on l.fn.own) ++ flat_map (λ h. from_director h.sender (parts_on h.body)) (take l.h-index l.held)
