use Rattle.std.proofs.Common.{arith}
use Rattle.samr_linear.proofs.Numbers.{between_size, reduced_given}
use Rattle.samr_linear.proofs.linear.reduced.Goals as goal

pub returns-clause-value : goal.returns-clause-value
returns-clause-value c =
    reduced_given c.args.v c.args.modulus c.args.i c.args.j c.args.k c.rem_euclid.result (omega (arith, c.ranges.v)) (omega (arith, c.ranges.modulus))
    (between_size _ c.requires.i.0 c.requires.i.1) (between_size _ c.requires.j.0 c.requires.j.1) (between_size _ c.requires.k.0 c.requires.k.1)
    c.rem_euclid.ensures.value c.rem_euclid.ensures.upper_bound
