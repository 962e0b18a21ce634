use Rattle.std.proofs.Common.{[]}
use Rattle.std.specs.Prelude.{get_or}
use Rattle.std.specs.List.{flat_map}
use Rattle.samr_cluster.proofs.ClusterOnAllLaws.{one_pushed}
use Rattle.samr_cluster.proofs.cluster_on_all.all_accepted.Goals as goal

pub loop-rank-preserved : goal.loop-rank-preserved
loop-rank-preserved c = one_pushed (λ r. flat_map (λ q. get_or q r []) c.args.rounds.now) c.loop-rank.rank _ _ _ c.in_ok-push.ensures.items c.loop-rank.invariant c.in_ok-accepted_on.ensures
