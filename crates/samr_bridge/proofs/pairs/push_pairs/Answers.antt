use Rattle.samr_level.proofs.Steps.{flat_map_on}
use Rattle.samr_bridge.specs.Search.{pair_of}
use Rattle.samr_bridge.proofs.pairs.push_pairs.Goals as goal

pub loop-b-preserved : goal.loop-b-preserved
loop-b-preserved c =
    flat_map_on c.args.to_west.now c.loop-b.b-index c.b-item.result c.loop-b-test.true c.b-item.is
    (λ b. pair_of c.args.ruler.now c.args.a b) _ _ _ c.loop-b.invariant c.in_ok-push_pair.ensures
