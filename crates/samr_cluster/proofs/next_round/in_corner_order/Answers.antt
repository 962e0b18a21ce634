use Rattle.samr_rounds.specs.Sorted.{corner_less}
use Rattle.samr_rounds.proofs.Sorting.{stable_is, corner_ranks}
use Rattle.samr_cluster.proofs.next_round.in_corner_order.Goals as goal

pub returns : goal.returns
returns c = stable_is corner_less (corner_ranks (λ b. b)) _ _ c.in_ok-sort.ensures.sorted c.in_ok-sort.ensures.stable
