use Rattle.samr_find.proofs.FinderLaws.{meeting-more}
use Rattle.samr_verify.proofs.look_up.compared.Goals as goal

pub loop-place-preserved : goal.loop-place-preserved
loop-place-preserved c =
    meeting-more c.args.boxes.now c.args.b c.loop-place.place c.index-boxes-place.result c.loop-place.places.items c.push_where.new.places.items c.boxes_meet.result
    c.loop-place-test.true c.index-boxes-place.is c.loop-place.invariant c.boxes_meet.ensures.value c.in_ok-push_where.ensures
