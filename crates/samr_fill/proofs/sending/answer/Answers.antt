use Rattle.samr_fill.proofs.BoxSearch.{answer_there, answer_nowhere}
use Rattle.samr_fill.proofs.sending.answer.Goals as goal

pub returns-in_ok-parcel-in-Some : goal.returns-in_ok-parcel-in-Some
returns-in_ok-parcel-in-Some c =
    answer_there c.args.d.now c.args.coarser.now c.args.q.now c.from.result c.from.ensures c.in-Some.patches.now c.in-Some.ensures.lookup.3.0 c.in-Some.ensures.lookup.1
    c.as_slice.result.now c.as_slice.ensures c.in_ok-parcel-in-Some.parcel c.in_ok-parcel-in-Some.ensures

pub returns-in-None : goal.returns-in-None
returns-in-None c = λ sorted.
    answer_nowhere c.args.d.now c.args.coarser.now c.args.q.now c.from.result c.from.ensures c.in-None.ensures.lookup.3
