use Rattle.std.proofs.Common.{◌≡◌, ◌≤◌, length, arith, sym, ◌∙◌}
use Rattle.samr_verify.proofs.WordLaws.{goes_on, stops, ends}
use Rattle.samr_verify.proofs.words.word_len.Goals as goal

pub returns-then-byte-le32-clause-value : goal.returns-then-byte-le32-clause-value
returns-then-byte-le32-clause-value c =
    sym (stops c.args.text.now c.loop-i.i 0 (omega (arith, c.loop-i-test.true)) (omega (arith, c.if-byte-le32.true)) c.loop-i.invariant)

pub loop-i-preserved : goal.loop-i-preserved
loop-i-preserved c = goes_on c.args.text.now c.loop-i.i 0 (omega (arith, c.loop-i-test.true)) (omega (arith, c.if-byte-le32.false)) c.loop-i.invariant

pub returns-clause-value : goal.returns-clause-value
returns-clause-value c =
    let at_end : length c.args.text.now ≤ c.loop-i.i = omega (arith, c.loop-i-test.false) in
    let here : c.loop-i.i ≡ length c.args.text.now = omega (arith, at_end, c.loop-i.auto.i-end) in
    sym (ends c.args.text.now c.loop-i.i at_end c.loop-i.invariant ∙ here)
