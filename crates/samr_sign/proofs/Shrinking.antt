-- The shrunk box.
use Rattle.std.proofs.Common.{◌≡◌, ℕ, ◌+◌, ◌<◌, ◌^◌, length, ap, ◌∙◌, arith}
use Rattle.std.proofs.lemmas.Int.{ints}
use Rattle.std.specs.Prelude.{pos}
use Rattle.samr_box.specs.declared.vector.Axis.{Axis}
use Rattle.samr_box.specs.declared.vector.Axis.TheVariants.{I, J, K}
use Rattle.samr_box.specs.declared.vector.IVec.{IVec}
use Rattle.samr_box.specs.Vector.{plus, minus, FitsVector}
use Rattle.samr_box.proofs.Vectors.{same_cell}
use Rattle.samr_box.specs.Corners.{Corners, IsBox, span}
use Rattle.samr_sign.specs.Counts.{Sign, IsSign, counts, total}
use Rattle.samr_sign.specs.Line.{leading, trailing}
use Rattle.samr_sign.specs.Decide.{steps, shrunk, line}
use Rattle.samr_sign.proofs.Slices.{corners}
use Rattle.samr_sign.proofs.Extents.{length_kept, kept_some}

-- something is kept on each axis
pub room : (axis : Axis) (s : Sign) → IsSign s → 0 < total s → leading (counts axis s) + trailing (counts axis s) < span axis s.bx
room axis s h some = omega (arith, kept_some (counts axis s) (omega (arith, h.sums axis, some)), h.lengths axis)

pub IsBox-shrunk : (s : Sign) → IsSign s → 0 < total s → IsBox (shrunk s)
IsBox-shrunk s h some =
    let i = room I s h some in
    let j = room J s h some in
    let k = room K s h some in
    let b = h.whole in
    record {
      low = record { k = omega (arith, ints, b.low.k); j = omega (arith, ints, b.low.j); i = omega (arith, ints, b.low.i) };
      order = record { k = omega (arith, ints, k, b.order.k); j = omega (arith, ints, j, b.order.j); i = omega (arith, ints, i, b.order.i) };
      high = record { k = omega (arith, ints, b.high.k); j = omega (arith, ints, b.high.j); i = omega (arith, ints, b.high.i) };
    }

pub span_shrunk : (axis : Axis) (s : Sign) → IsSign s → 0 < total s → span axis (shrunk s) ≡ length (line axis s)
span_shrunk I s h some = let r = room I s h some in omega (arith, ints, r, h.whole.order.i, h.lengths I, length_kept s.i)
span_shrunk J s h some = let r = room J s h some in omega (arith, ints, r, h.whole.order.j, h.lengths J, length_kept s.j)
span_shrunk K s h some = let r = room K s h some in omega (arith, ints, r, h.whole.order.k, h.lengths K, length_kept s.k)

-- small steps from a corner fit
pub steps_fit : (i j k : ℕ) (b : Corners) → IsBox b → i < 2 ^ 32 → j < 2 ^ 32 → k < 2 ^ 32 → FitsVector (minus b.hi (steps i j k))
steps_fit i j k b h p q r = record {
  k = omega (arith, ints, h.low.k, h.order.k, h.high.k);
  j = omega (arith, ints, h.low.j, h.order.j, h.high.j);
  i = omega (arith, ints, h.low.i, h.order.i, h.high.i);
}

-- the corners as they are computed
pub shrunk_is : (s : Sign) (b : Corners) (lo hi before behind : IVec) (i j k x y z : ℕ) → b ≡ s.bx → lo ≡ plus b.lo before → hi ≡ minus b.hi behind → before ≡ steps i j k → behind ≡ steps x y z
    → i ≡ leading s.i → j ≡ leading s.j → k ≡ leading s.k → x ≡ trailing s.i → y ≡ trailing s.j → z ≡ trailing s.k → corners lo hi ≡ shrunk s
shrunk_is s b lo hi before behind i j k x y z e f g p q ei ej ek ex ey ez =
    let first : steps i j k ≡ steps (leading s.i) (leading s.j) (leading s.k) = same_cell (ap pos ek) (ap pos ej) (ap pos ei) in
    let last : steps x y z ≡ steps (trailing s.i) (trailing s.j) (trailing s.k) = same_cell (ap pos ez) (ap pos ey) (ap pos ex) in
    ap (λ v. corners v hi) (f ∙ ap (plus b.lo) (p ∙ first) ∙ ap (λ v. plus v.lo (steps (leading s.i) (leading s.j) (leading s.k))) e)
    ∙ ap (corners (plus s.bx.lo (steps (leading s.i) (leading s.j) (leading s.k)))) (g ∙ ap (minus b.hi) (q ∙ last) ∙ ap (λ v. minus v.hi (steps (trailing s.i) (trailing s.j) (trailing s.k))) e)
