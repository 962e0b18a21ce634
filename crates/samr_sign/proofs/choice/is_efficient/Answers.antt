use Rattle.std.proofs.Common.{arith}
use Rattle.samr_sign.proofs.Lines.{product_fits}
use Rattle.samr_sign.proofs.choice.is_efficient.Goals as goal

pub overflow_mul-result : goal.overflow_mul-result
overflow_mul-result c =
    omega (arith, product_fits c.from-4.result c.from.result c.from-2.result c.from-3.result (omega arith) (omega arith) (omega arith) (omega arith))
