use Rattle.std.proofs.Common.{arith}
use Rattle.samr_verify.specs.MeshFaults.{box_fault}
use Rattle.samr_verify.proofs.FoldLaws.{known_step}
use Rattle.samr_verify.proofs.boxes.first_of_boxes.Goals as goal

pub loop-i-preserved : goal.loop-i-preserved
loop-i-preserved c =
    known_step c.args.printed.now c.loop-i.i c.index-printed-i.result (omega arith) c.index-printed-i.is (box_fault c.args.g.now c.args.boxes.now)
    c.args.known c.loop-i.first c.in_ok-next.next c.loop-i.invariant c.in_ok-next.ensures
