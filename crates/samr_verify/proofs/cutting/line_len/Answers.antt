use Rattle.std.proofs.Common.{◌≤◌, length, arith, refl}
use Rattle.samr_verify.proofs.CuttingLaws.{begins, goes_on, stops, ends, whole}
use Rattle.samr_verify.proofs.cutting.line_len.Goals as goal

pub returns-then-byte-eq10-clause-line : goal.returns-then-byte-eq10-clause-line
returns-then-byte-eq10-clause-line c = λ some.
    stops c.args.text.now c.loop-i.i 0 (omega (arith, c.loop-i-test.true)) (omega (arith, c.if-byte-eq10.true)) c.loop-i.invariant

pub loop-i-init : goal.loop-i-init
loop-i-init c = begins c.args.text.now

pub loop-i-preserved : goal.loop-i-preserved
loop-i-preserved c =
    goes_on c.args.text.now c.loop-i.i 0 (omega (arith, c.loop-i-test.true)) (λ e. omega (arith, e, c.if-byte-eq10.false)) c.loop-i.invariant

pub returns-clause-line : goal.returns-clause-line
returns-clause-line c = λ some.
    let at_end : length c.args.text.now ≤ c.loop-i.i = omega (arith, c.loop-i-test.false) in
    let one = ends c.args.text.now c.loop-i.i some at_end c.loop-i.invariant in
    whole c.args.text.now (length c.args.text.now) refl one
