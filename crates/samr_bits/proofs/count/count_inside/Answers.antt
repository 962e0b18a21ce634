use Rattle.std.proofs.Common.{◌∙◌, sym}
use Rattle.samr_bits.proofs.Bits.{word_part}
use Rattle.samr_bits.proofs.count.count_inside.Goals as goal

pub returns-clause-value : goal.returns-clause-value
returns-clause-value c = c.count_part.ensures.value ∙ sym (word_part c.args.words.now c.args.from c.args.n c.requires.within)
