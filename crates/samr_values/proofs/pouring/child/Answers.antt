use Rattle.samr_values.proofs.Ranges.{times_fits, child_fits, child_offset}
use Rattle.samr_values.proofs.pouring.child.Goals as goal

pub times-requires : goal.times-requires
times-requires c =
    rw c.factors.ensures.value (times_fits c.args.base c.args.step c.requires.range (rw c.factors.ensures.value at c.factors.ensures.ratio))

pub minus-requires : goal.minus-requires
minus-requires c =
    rw (c.times.ensures, c.factors.ensures.value, c.requires.base) (child_fits c.args.x c.args.step (rw c.factors.ensures.value at c.factors.ensures.ratio))

pub returns-clause-offset : goal.returns-clause-offset
returns-clause-offset c = λ four.
    rw (c.minus.ensures, c.times.ensures, c.factors.ensures.value, c.requires.base) (child_offset c.args.x c.args.step (rw c.factors.ensures.value at c.factors.ensures.ratio) four)
