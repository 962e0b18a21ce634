use Rattle.std.proofs.Common.{◌≡◌, ◌∙◌, refl, arith}
use Rattle.std.proofs.lemmas.Int.{ints}
use Rattle.std.specs.Prelude.{pos}
use Rattle.samr_box.specs.declared.vector.IVec.{IVec}
use Rattle.samr_box.specs.Vector.{times, IsRatio}
use Rattle.samr_level.proofs.Reaches.{Bounded, bounded-times, FitsVector-bounded}
use Rattle.samr_trials_stages.proofs.planned.product.Goals as goal

bounded : {r : IVec} → IsRatio r → Bounded (pos 256) r
bounded h = record {
  low = record { k = omega (arith, ints, h.low.k); j = omega (arith, ints, h.low.j); i = omega (arith, ints, h.low.i) };
  high = h.high;
}

pub times-requires : goal.times-requires
times-requires c =
    FitsVector-bounded (pos 65536) (omega (arith, ints)) (bounded-times (pos 256) (omega (arith, ints)) (bounded c.factors.ensures.ratio) c.factors-2.ensures.ratio)

pub returns-clause-value : goal.returns-clause-value
returns-clause-value c =
    let is : c.times.result ≡ times c.args.a c.args.b = c.times.ensures ∙ rw (c.factors.ensures.value, c.factors-2.ensures.value) refl in
    rw is at c.ratio_from.ensures
