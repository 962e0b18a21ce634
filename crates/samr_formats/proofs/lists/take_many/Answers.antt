use Rattle.std.proofs.lemmas.Result.{err_from_is_err_and}
use Rattle.samr_formats.specs.Formats.{read_many}
use Rattle.samr_formats.proofs.Loops.{goes_on, ends, is_done}
use Rattle.samr_formats.proofs.lists.take_many.Goals as goal

pub returns-in_err-one : goal.returns-in_err-one
returns-in_err-one g c =
    let p = err_from_is_err_and c.from_residual.result c.from_residual.ensures.1 in
    rw (p.1, p.2) (ends g.T.Format.reading c.in_err-one.field-0.0 c.loop.list.items c.args.count c.loop.counter c.loop.rest.now (read_many g.T.Format.reading c.args.count c.args.bytes.now) c.loop-test.true c.in_err-one.ensures c.loop.invariant)

pub loop-preserved : goal.loop-preserved
loop-preserved g c =
    rw c.in_ok-push.ensures.items (goes_on g.T.Format.reading c.loop.list.items c.args.count c.loop.counter c.loop.rest.now c.in_ok-one.one c.in_ok-one.after.now (read_many g.T.Format.reading c.args.count c.args.bytes.now) c.loop-test.true c.in_ok-one.ensures c.loop.invariant)

pub returns : goal.returns
returns g c = is_done g.T.Format.reading c.loop.list.items c.args.count c.loop.counter c.loop.rest.now (read_many g.T.Format.reading c.args.count c.args.bytes.now) c.loop-test.false c.loop.invariant
