use Rattle.std.proofs.Common.{◌≡◌, ℕ, to_z, of_z, w64, min, max, ap, ◌∙◌, arith}
use Rattle.std.proofs.lemmas.Int.{ints}
use Rattle.std.specs.Prelude.{ℤ, pos, unsigned_abs}
use Rattle.std.specs.Int.{int_max}
use Rattle.samr_box.specs.Vector.{at}
use Rattle.samr_level.proofs.BlockPlaces.{IsSpan-clipped}
use Rattle.samr_level.proofs.cut.span.Goals as goal

-- a place passed on as a number
clipped_at : (x y : ℤ) (n m first : ℕ) → first ≡ min (unsigned_abs (int_max x (pos 0))) n → x ≡ y → n ≡ m → first ≡ min (unsigned_abs (int_max y (pos 0))) m
clipped_at x y n m first e f g =
    e ∙ ap (λ (v : ℤ). min (unsigned_abs (int_max v (pos 0))) n) f ∙ ap (λ (v : ℕ). min (unsigned_abs (int_max y (pos 0))) v) g

pub returns : goal.returns
returns c =
    let low : to_z w64 (of_z w64 c.at.result) ≡ c.at.result = omega (arith, ints) in
    let high : to_z w64 (of_z w64 c.at-2.result) ≡ c.at-2.result = omega (arith, ints) in
    IsSpan-clipped c.args.axis c.args.block c.args.bx c.args.window c.clipped-first.result c.max.result c.requires
    (clipped_at _ _ _ _ _ c.clipped-first.ensures (low ∙ c.at.ensures ∙ ap (at c.args.axis) c.places.ensures.low) c.blocks_along-count.ensures.value)
    (c.max.ensures
    ∙ ap (λ (v : ℕ). max v c.clipped-first.result)
    (clipped_at _ _ _ _ _ c.clipped-end.ensures (high ∙ c.at-2.ensures ∙ ap (at c.args.axis) c.places.ensures.high) c.blocks_along-count.ensures.value))
