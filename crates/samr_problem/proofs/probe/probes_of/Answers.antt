use Rattle.samr_problem.specs.Fields.{probe_of}
use Rattle.samr_problem.proofs.Items.{items_pushed}
use Rattle.samr_problem.proofs.probe.probes_of.Goals as goal

pub loop-item-preserved : goal.loop-item-preserved
loop-item-preserved c =
    items_pushed (probe_of c.args.dim) c.args.items.now c.loop-item.item-index _ _ _ _ c.loop-item-test.true c.item-item.is c.in_ok-push.ensures.items c.loop-item.invariant c.probe_of.ensures
