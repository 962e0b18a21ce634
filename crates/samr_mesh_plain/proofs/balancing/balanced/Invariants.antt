use Rattle.std.proofs.Common.{◌≡◌, map}
use Rattle.std.specs.Prelude.{unsigned_abs}
use Rattle.std.specs.List.{flat_map, range_with_len}
use Rattle.samr_load.specs.Descent.{pieces_of}
use Rattle.samr_load.specs.Balanced.{owned_by, balancing}
use Rattle.samr_mesh_plain.proofs.balancing.balanced.Given as goal

abbrev pub invariant-loop-rank : goal.invariant-loop-rank
invariant-loop-rank l =
    l.all.items ≡ flat_map (λ rank. map (owned_by rank) (pieces_of (balancing l.fn.ranks (unsigned_abs l.fn.smallest) l.fn.boxes) rank)) (range_with_len 0 l.rank)
