use Rattle.samr_fill.proofs.Steps.{filter_map_more}
use Rattle.samr_linear.specs.LinearSending.{answer_in}
use Rattle.samr_linear.proofs.sending.push_answers.Goals as goal

pub loop-q-preserved : goal.loop-q-preserved
loop-q-preserved c = λ sorted.
    filter_map_more c.args.requests.now c.loop-q.q-index c.q-item.result c.loop-q-test.true c.q-item.is
    (λ q. answer_in c.args.d.now c.args.real q c.args.coarser.now) _ _ _ (c.loop-q.invariant sorted) c.in_ok-parcel.parcel (c.in_ok-parcel.ensures sorted) c.in_ok-push_some.ensures
