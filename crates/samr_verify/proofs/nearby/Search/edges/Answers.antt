use Rattle.samr_verify.specs.Nearby.{edges_from}
use Rattle.samr_verify.proofs.AlikeLaws.{alike_step}
use Rattle.samr_verify.proofs.nearby.Search.edges.Goals as goal

pub loop-a-preserved : goal.loop-a-preserved
loop-a-preserved c =
    let self = c.args.self.now in
    alike_step (λ a. edges_from self.ruler self.shifts.items self.heads.now a) c.args.most c.args.bases.now c.loop-a.a-index c.a-item.result c.loop-a.out.items c.push_at_most.new.out.items
    c.loop-a-test.true c.a-item.is c.loop-a.invariant c.in_ok-push_at_most.ensures
