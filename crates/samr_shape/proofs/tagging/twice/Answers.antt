use Rattle.std.proofs.Common.{arith}
use Rattle.std.proofs.lemmas.Int.{ints, to_z-of_z}
use Rattle.samr_shape.proofs.tagging.twice.Goals as goal

pub returns-clause-short : goal.returns-clause-short
returns-clause-short c =
    let low = c.requires.low in
    let high = c.requires.high in
    rw c.alike.ensures (record {
      low = record { k = grind (arith, ints, to_z-of_z); j = grind (arith, ints, to_z-of_z); i = grind (arith, ints, to_z-of_z) };
      high = record { k = grind (arith, ints, to_z-of_z); j = grind (arith, ints, to_z-of_z); i = grind (arith, ints, to_z-of_z) };
    })
