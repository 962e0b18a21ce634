use Rattle.std.proofs.Common.{ap, ◌∙◌, ◌+◌, arith}
use Rattle.std.proofs.lemmas.Nat.{ones-le}
use Rattle.samr_bits.proofs.Bits.{four_words, four_words_more, one_word_more, all_words}
use Rattle.samr_bits.proofs.count.count_bits.Goals as goal

pub loop-i-preserved : goal.loop-i-preserved
loop-i-preserved c = record {
  value = four_words_more c.args.words.now c.loop-i.i _ _ c.loop-i.invariant.value (c.count_four-count.ensures.value ∙ four_words c.args.words.now c.loop-i.i);
  small = omega (arith, c.count_four-count.ensures.small);
}

pub loop-i-2-preserved : goal.loop-i-2-preserved
loop-i-2-preserved c = record {
  value = ap (λ n. c.loop-i-2.count + n) c.from-count.ensures ∙ one_word_more c.args.words.now c.loop-i-2.i _ c.loop-i-2-test.true c.loop-i-2.invariant.value;
  small = omega (arith, c.from-count.ensures, ones-le 64 _ (c.type_inv.words c.loop-i-2.i).fits);
}

pub returns-clause-bits : goal.returns-clause-bits
returns-clause-bits c = all_words c.args.words.now c.loop-i-2.i _ c.loop-i-2-test.false (omega arith) (λ k. (c.type_inv.words k).fits) c.loop-i-2.invariant.value
