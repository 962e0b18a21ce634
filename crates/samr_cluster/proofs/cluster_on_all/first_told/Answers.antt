use Rattle.std.proofs.Common.{arith, ◌≡◌, not, nat_eq, []}
use Rattle.std.specs.Prelude.{if◌then◌else◌}
use Rattle.samr_rounds.specs.Rounds.{directed}
use Rattle.samr_cluster.specs.Rounds.{from_director}
use Rattle.samr_cluster.proofs.ClusterOnAllLaws.{one_given, first_told_is}
use Rattle.samr_cluster.proofs.cluster_on_all.first_told.Goals as goal

pub loop-director-preserved : goal.loop-director-preserved
loop-director-preserved c =
    one_given (λ d. if not (nat_eq d c.args.rank) then from_director d (directed c.args.ranks d c.args.roots.now) else []) c.loop-director.director
    (from_director c.args.rank (directed c.args.ranks c.args.rank c.args.roots.now)) _ _ c.in_ok-push_roots.ensures c.loop-director.invariant

pub returns : goal.returns
returns c =
    let all : c.loop-director.director ≡ c.args.ranks = omega (arith, c.loop-director-test.false, c.loop-director.auto.director-end) in
    first_told_is c.args.ranks c.args.roots.now c.args.rank c.loop-director.director c.loop-director.told.items c.loop-director.invariant all
