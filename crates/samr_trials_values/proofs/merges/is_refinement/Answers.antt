use Rattle.std.proofs.Common.{◌∙◌, sym, subst, arith}
use Rattle.std.proofs.lemmas.Int.{ints}
use Rattle.std.specs.Prelude.{pos}
use Rattle.samr_box.specs.declared.vector.IVec.{IVec}
use Rattle.samr_box.specs.Vector.{alike, AtMost, IsRatio}
use Rattle.samr_box.specs.Corners.{Corners, IsBox}
use Rattle.samr_box.specs.Ratios.{refined}
use Rattle.samr_level.proofs.Reaches.{bounded-times, bounded-plus, bounded-ratio}
use Rattle.samr_values.proofs.Ranges.{refined_full}
use Rattle.samr_values.proofs.Written.{same_box_is}
use Rattle.samr_trials_values.proofs.merges.is_refinement.Goals as goal

-- the cells over a small box are a box
refined_box : (b : Corners) (r : IVec) → IsRatio r → IsBox b → AtMost (alike (pos 0)) b.lo → AtMost b.hi (alike (pos 1000)) → IsBox (refined b r)
refined_box b r q is low high =
    let o = is.order in
    let first = bounded-times (pos 1000) {x = b.lo} {r = r} (omega (arith, ints)) (record {
      low = record { k = omega (arith, ints, low.k); j = omega (arith, ints, low.j); i = omega (arith, ints, low.i) };
      high = record { k = omega (arith, ints, o.k, high.k); j = omega (arith, ints, o.j, high.j); i = omega (arith, ints, o.i, high.i) };
    }) q in
    let last = bounded-plus (pos 256000) (pos 256) (bounded-times (pos 1000) {x = b.hi} {r = r} (omega (arith, ints)) (record {
      low = record { k = omega (arith, ints, o.k, low.k); j = omega (arith, ints, o.j, low.j); i = omega (arith, ints, o.i, low.i) };
      high = high;
    }) q) (bounded-ratio q) in
    record {
      low = record { k = omega (arith, ints, first.low.k); j = omega (arith, ints, first.low.j); i = omega (arith, ints, first.low.i) };
      order = refined_full b r o q;
      high = record { k = omega (arith, ints, last.high.k); j = omega (arith, ints, last.high.j); i = omega (arith, ints, last.high.i) };
    }

pub refine-requires : goal.refine-requires
refine-requires c =
    refined_box c.coarsen-under.result c.args.step (subst IsRatio c.factors.ensures.value c.factors.ensures.ratio) (c.is_small.ensures.whole c.if-not-is_small.false)
    (c.is_small.ensures.low c.if-not-is_small.false) (c.is_small.ensures.high c.if-not-is_small.false)

pub returns : goal.returns
returns c = λ t.
    (c.coarsen-under.result, c.is_small.ensures.whole c.if-not-is_small.false, sym (same_box_is c.refine.result c.args.b (sym c.is_same.ensures ∙ t)) ∙ c.refine.ensures.value)
