use Rattle.std.proofs.Common.{arith}
use Rattle.samr_sign.specs.Fields.{tagged_in}
use Rattle.samr_sign.proofs.Sums.{plane_less, plane_pushed, planes_are}
use Rattle.samr_sign.proofs.signature.planes_of.Goals as goal

pub count_all-requires-clause-few : goal.count_all-requires-clause-few
count_all-requires-clause-few c =
    let below = rw c.length-place-end.ensures.value at c.loop-place-test.true in
    omega (arith, c.requires.few, plane_less c.args.axis (tagged_in c.args.fields.now) c.args.bx c.slice.result c.loop-place.place below c.slice.ensures)

pub loop-place-preserved : goal.loop-place-preserved
loop-place-preserved c =
    plane_pushed c.args.axis (tagged_in c.args.fields.now) c.args.bx c.slice.result c.loop-place.place c.count_all.result _ _ c.in_ok-push.ensures.items c.loop-place.invariant c.count_all.ensures c.slice.ensures

pub returns-clause-counts : goal.returns-clause-counts
returns-clause-counts c =
    let end = rw c.length-place-end.ensures.value at c.loop-place-test.false in
    let most = rw c.length-place-end.ensures.value at c.loop-place.auto.place-end in
    planes_are c.args.axis (tagged_in c.args.fields.now) c.args.bx c.loop-place.place c.loop-place.counts.items most end c.loop-place.invariant
