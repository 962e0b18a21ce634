-- What a rank has in a Decide round.
use Rattle.std.specs.Prelude.{◌≡◌, ℕ, ◌<◌, not, nat_eq, List, length, map, filter, Some, slice_get}
use Rattle.std.specs.List.{flat_map}
use Rattle.std.specs.Ordering.{nat_cmp}
use Rattle.samr_level.specs.RefOrders.{in_order}
use Rattle.samr_sign.specs.declared.rule.CutRule.{CutRule}
use Rattle.samr_cluster.specs.declared.nodes.Told.{Told}
use Rattle.samr_cluster.specs.declared.nodes.Reported.{Reported}
use Rattle.samr_cluster.specs.declared.nodes.Decided.{Decided}
use Rattle.samr_cluster.specs.declared.verdict.Judged.{Judged}
use Rattle.samr_cluster.specs.Cluster.{IsClustering}
use Rattle.samr_cluster.specs.Rounds.{Round, open_of, near_state, told_state, directed_after, counted_as, accepted_state, next}
use Rattle.samr_cluster.specs.DecideRow.{judged_as}

-- what a rank has once all have reported: the nodes that it is near, and the counts of those that it directs
abbrev pub reported_state : Round → ℕ → Reported
reported_state x r = record { near = near_state x r; counted = map (λ b. counted_as x.whole b) (open_of x r) }

-- and once all have decided
abbrev pub decided_state : Round → ℕ → Decided
decided_state x r =
    record { told = told_state (next x) r; directed = directed_after x.whole r (next x).number; accepted = accepted_state x r }

pub record HasReported (rank : ℕ) (reported : Reported) (rule : CutRule) (x : Round) (r : ℕ) : Type 0 where
  pub is : IsClustering x.whole
  pub same_rank : rank ≡ r
  pub within : r < x.whole.ranks
  pub same_rule : rule ≡ x.whole.rule
  pub same_reported : reported ≡ reported_state x r

-- what all ranks have, in order of rank
pub record HaveAllReported (reported : List Reported) (rule : CutRule) (x : Round) : Type 0 where
  pub same_ranks : length reported ≡ x.whole.ranks
  pub part : (r : ℕ) (v : Reported) → slice_get reported r ≡ Some v → HasReported r v rule x r

-- the other directors of some nodes, and the other ranks near nodes that were judged
unfoldable pub other_directors : ℕ → List Told → List ℕ
other_directors rank told = in_order nat_cmp (filter (λ r. not (nat_eq r rank)) (map (λ t. t.director) told))

unfoldable pub others_near : ℕ → List Judged → List ℕ
others_near rank judged = in_order nat_cmp (flat_map (λ j. filter (λ r. not (nat_eq r rank)) j.near) judged)

pub record HasJudged (rank : ℕ) (judged : List Judged) (addressees senders : List ℕ) (x : Round) (r : ℕ) : Type 0 where
  pub is : IsClustering x.whole
  pub same_rank : rank ≡ r
  pub within : r < x.whole.ranks
  pub same_judged : judged ≡ map (λ b. judged_as x.whole b) (open_of x r)
  pub same_addressees : addressees ≡ others_near r judged
  pub same_senders : senders ≡ other_directors r (near_state x r)
