use Rattle.std.proofs.Common.{arith}
use Rattle.samr_bits.proofs.Bits.{run_counted, among_most}
use Rattle.samr_bits.proofs.count.count_run.Goals as goal

pub overflow_add-result : goal.overflow_add-result
overflow_add-result c =
    let counted = run_counted c.args.words.now c.args.from c.args.n c.div_ceil-first.result _ _ _ c.requires.inside (λ k. (c.type_inv.words k).fits) c.div_ceil-first.ensures c.if-last-first.false c.count_inside-before.ensures.value c.count_bits.ensures.value c.count_inside-after.ensures.value in
    omega (arith, counted, among_most c.args.words.now c.args.from c.args.n)

pub overflow_add-result-2 : goal.overflow_add-result-2
overflow_add-result-2 c =
    let counted = run_counted c.args.words.now c.args.from c.args.n c.div_ceil-first.result _ _ _ c.requires.inside (λ k. (c.type_inv.words k).fits) c.div_ceil-first.ensures c.if-last-first.false c.count_inside-before.ensures.value c.count_bits.ensures.value c.count_inside-after.ensures.value in
    omega (arith, counted, among_most c.args.words.now c.args.from c.args.n)

pub returns : goal.returns
returns c =
    run_counted c.args.words.now c.args.from c.args.n c.div_ceil-first.result _ _ _ c.requires.inside (λ k. (c.type_inv.words k).fits) c.div_ceil-first.ensures c.if-last-first.false c.count_inside-before.ensures.value c.count_bits.ensures.value c.count_inside-after.ensures.value
