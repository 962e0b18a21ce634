use Rattle.std.proofs.Common.{arith}
use Rattle.std.proofs.lemmas.Int.{ints, clamps}
use Rattle.std.specs.Prelude.{pos}
use Rattle.samr_box.specs.declared.vector.IVec.{IVec}
use Rattle.samr_box.specs.Vector.{IsRatio, greatest}
use Rattle.samr_level.proofs.Reaches.{bounded-times, FitsVector-bounded, greatest-ratio}
use Rattle.samr_trials_levels.proofs.pairs.has_frame.Goals as goal

ratio : (a b : IVec) → IsRatio a → IsRatio b → IsRatio (greatest a b)
ratio a b p q = record {
  low = record { k = omega (arith, ints, clamps, p.low.k); j = omega (arith, ints, clamps, p.low.j); i = omega (arith, ints, clamps, p.low.i) };
  high = greatest-ratio p q;
}

pub times-size-requires : goal.times-size-requires
times-size-requires c =
    let d = c.d.invariant in
    rw c.greatest.ensures
    (FitsVector-bounded (pos 274877906944) (omega (arith, ints))
    (bounded-times (pos 1073741824) (omega (arith, ints))
    (record {
      low = record { k = omega (arith, ints, d.low.k); j = omega (arith, ints, d.low.j); i = omega (arith, ints, d.low.i) };
      high = d.high;
    })
    (ratio _ _ c.factors.ensures.ratio c.factors-2.ensures.ratio)))
