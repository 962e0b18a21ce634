use Rattle.std.proofs.Common.{◌≡◌, ◌∙◌, refl, arith}
use Rattle.std.proofs.lemmas.Int.{ints}
use Rattle.std.specs.Prelude.{pos}
use Rattle.samr_box.specs.declared.vector.IVec.{IVec}
use Rattle.samr_box.specs.Vector.{times, IsRatio, FitsVector}
use Rattle.samr_box.proofs.Products.{mul_comm}
use Rattle.samr_level.proofs.Reaches.{Bounded, bounded-times, FitsVector-bounded}
use Rattle.samr_trials_stages.proofs.covers.product.Goals as goal

bounded : {r : IVec} → IsRatio r → Bounded (pos 256) r
bounded h = record {
  low = record { k = omega (arith, ints, h.low.k); j = omega (arith, ints, h.low.j); i = omega (arith, ints, h.low.i) };
  high = h.high;
}

times_comm : (x y : IVec) → times x y ≡ times y x
times_comm x y = rw (mul_comm x.k y.k, mul_comm x.j y.j, mul_comm x.i y.i) refl

pub times-requires : goal.times-requires
times-requires c =
    FitsVector-bounded (pos 65536) (omega (arith, ints)) (bounded-times (pos 256) (omega (arith, ints)) (bounded c.factors-2.ensures.ratio) c.factors-3.ensures.ratio)

pub times-requires-2 : goal.times-requires-2
times-requires-2 c =
    rw (c.times.ensures, times_comm c.factors.result (times c.factors-2.result c.factors-3.result))
    (FitsVector-bounded (pos 16777216) (omega (arith, ints))
    (bounded-times (pos 65536) (omega (arith, ints)) (bounded-times (pos 256) (omega (arith, ints)) (bounded c.factors-2.ensures.ratio) c.factors-3.ensures.ratio) c.factors.ensures.ratio))

pub returns-clause-value : goal.returns-clause-value
returns-clause-value c =
    let is : c.times-2.result ≡ times c.args.a (times c.args.b c.args.c) =
    c.times-2.ensures ∙ rw (c.factors.ensures.value, c.times.ensures, c.factors-2.ensures.value, c.factors-3.ensures.value) refl in
    rw is at c.ratio_from.ensures
