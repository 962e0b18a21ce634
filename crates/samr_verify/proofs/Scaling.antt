-- The greater of two ratios.
use Rattle.std.proofs.Common.{◌≡◌, arith, refl, sym, subst, ℤ, pos, ◌≤ℤ◌, inl, inr, ◌*ℤ◌}
use Rattle.std.specs.Prelude.{◌⊎◌, int_lt, true, false, cond}
use Rattle.std.specs.Int.{int_max}
use Rattle.std.proofs.lemmas.Int.{ints}
use Rattle.samr_box.specs.declared.vector.IVec.{IVec}
use Rattle.samr_box.specs.Vector.{IsRatio, InRange, greatest}
use Rattle.samr_box.specs.Space.{Space, IsSpace, finer}

pub InRange-ratio : {r : IVec} → IsRatio r → InRange r
InRange-ratio h = record {
  low = record { k = omega (arith, ints, h.low.k); j = omega (arith, ints, h.low.j); i = omega (arith, ints, h.low.i) };
  high = record { k = omega (arith, ints, h.high.k); j = omega (arith, ints, h.high.j); i = omega (arith, ints, h.high.i) };
}

max_is : (a b : ℤ) → (int_max a b ≡ a) ⊎ (int_max a b ≡ b)
max_is a b = elim (int_lt b a) as (λ v. (cond v a b ≡ a) ⊎ (cond v a b ≡ b)) [ true ↦ inl refl | false ↦ inr refl ]

max_has : (P : ℤ → Type 0) (a b : ℤ) → P a → P b → P (int_max a b)
max_has P a b h k = elim (max_is a b) [ inl e ↦ subst P (sym e) h | inr e ↦ subst P (sym e) k ]

abbrev Some : ℤ → Type 0
Some z = pos 1 ≤ℤ z

abbrev Few : ℤ → Type 0
Few z = z ≤ℤ pos 256

abbrev Low : ℤ → ℤ → Type 0
Low n z = pos 1 ≤ℤ (n *ℤ z)

abbrev High : ℤ → ℤ → Type 0
High n z = (n *ℤ z) ≤ℤ pos 1073741824

pub IsRatio-greatest : {a b : IVec} → IsRatio a → IsRatio b → IsRatio (greatest a b)
IsRatio-greatest {a} {b} g h = record {
  low = record { k = max_has Some a.k b.k g.low.k h.low.k; j = max_has Some a.j b.j g.low.j h.low.j; i = max_has Some a.i b.i g.low.i h.low.i };
  high = record { k = max_has Few a.k b.k g.high.k h.high.k; j = max_has Few a.j b.j g.high.j h.high.j; i = max_has Few a.i b.i g.high.i h.high.i };
}

pub IsSpace-greatest : (d : Space) (a b : IVec) → IsSpace (finer d a) → IsSpace (finer d b) → IsSpace (finer d (greatest a b))
IsSpace-greatest d a b g h = record {
  low = record { k = max_has (Low d.size.k) a.k b.k g.low.k h.low.k; j = max_has (Low d.size.j) a.j b.j g.low.j h.low.j; i = max_has (Low d.size.i) a.i b.i g.low.i h.low.i };
  high = record { k = max_has (High d.size.k) a.k b.k g.high.k h.high.k; j = max_has (High d.size.j) a.j b.j g.high.j h.high.j; i = max_has (High d.size.i) a.i b.i g.high.i h.high.i };
}
