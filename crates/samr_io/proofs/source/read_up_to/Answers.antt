use Rattle.std.proofs.Common.{arith}
use Rattle.std.proofs.lemmas.Grind.{common_steps}
use Rattle.samr_io.proofs.Fronts.{takes_more}
use Rattle.samr_io.proofs.source.read_up_to.Goals as goal

pub returns-in_err-extend_from_slice-clause-most : goal.returns-in_err-extend_from_slice-clause-most
returns-in_err-extend_from_slice-clause-most g c =
    takes_more _ _ _ _ _ _ c.reading.invariant.taken c.in_ok-count.ensures.bytes.0 (grind (arith, common_steps))
