use Rattle.samr_fill.proofs.Steps.{filter_map_more}
use Rattle.samr_fill.specs.Sending.{copied_from}
use Rattle.samr_linear.proofs.sending.push_edges.Goals as goal

pub loop-e-preserved : goal.loop-e-preserved
loop-e-preserved c =
    filter_map_more c.args.edges.now c.loop-e.e-index c.e-item.result c.loop-e-test.true c.e-item.is
    (λ e. copied_from c.args.d.now c.args.to c.args.field c.args.patch.now e) _ _ _ c.loop-e.invariant c.in_ok-parcel.parcel c.in_ok-parcel.ensures c.in_ok-push_some.ensures
