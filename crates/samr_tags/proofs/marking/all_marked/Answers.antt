use Rattle.samr_tags.proofs.AllMarks.{one_more_marked}
use Rattle.samr_tags.proofs.marking.all_marked.Goals as goal

pub loop-bx-preserved : goal.loop-bx-preserved
loop-bx-preserved c =
    one_more_marked c.args.frame.now c.args.buffer c.args.rank c.args.own.now c.args.held.now c.args.boxes.now c.loop-bx.bx-index c.bx-item.result
    c.loop-bx.fields.items c.push.new.self.items c.in_ok-marked.field-0 c.loop-bx-test.true c.bx-item.is c.loop-bx.invariant
    c.in_ok-marked.ensures.bx c.in_ok-marked.ensures.cells c.in_ok-push.ensures.items
