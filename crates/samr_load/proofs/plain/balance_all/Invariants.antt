use Rattle.std.proofs.Common.{◌≡◌, map}
use Rattle.std.specs.Prelude.{unsigned_abs}
use Rattle.std.specs.List.{range_with_len}
use Rattle.samr_load.specs.Descent.{pieces_of}
use Rattle.samr_load.specs.Balanced.{balancing}
use Rattle.samr_load.proofs.plain.balance_all.Given as goal

abbrev pub invariant-loop-rank : goal.invariant-loop-rank
invariant-loop-rank l =
    map (λ list. list.items) l.all.items ≡ map (pieces_of (balancing l.plan.ranks (unsigned_abs l.plan.smallest) l.plan.boxes)) (range_with_len 0 l.rank)
