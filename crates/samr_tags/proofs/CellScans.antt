-- Members that pass a test, of lists made from the numbers below a bound, one number more.
use Rattle.std.proofs.Common.{◌≡◌, ℕ, ◌+◌, List, [], ◌∷◌, ◌++◌, map, filter, ap, append_assoc, ◌<◌, refl, arith}
use Rattle.std.specs.Prelude.{Bool, cond}
use Rattle.std.specs.List.{range_with_len, flat_map}
use Rattle.std.proofs.lemmas.List.Elements.{filter-append}
use Rattle.std.proofs.lemmas.Int.{ints}
use Rattle.samr_box.specs.declared.vector.Axis.TheVariants.{I, J, K}
use Rattle.samr_box.specs.Vector.{AtMost}
use Rattle.samr_box.specs.Corners.{Corners, Holds, span}
use Rattle.samr_find.specs.Cells.{cell_at}
use Rattle.samr_find.proofs.Ranges.{map_range_more, flat_map_range_more}

module _ {X : Type 0} (test : X → Bool) where
  -- a loop's step that appends the next member, if it passes
  pub one_more_tested : (f : ℕ → X) (n : ℕ) (before now next : List X) (x : X)
      → next ≡ now ++ cond (test x) (x ∷ []) [] → now ≡ before ++ filter test (map f (range_with_len 0 n)) → x ≡ f n
      → next ≡ before ++ filter test (map f (range_with_len 0 (n + 1)))
  one_more_tested f n before now next x step so_far is =
      rw (step, so_far, is, append_assoc, map_range_more f n, filter-append test (map f (range_with_len 0 n)) (f n ∷ [])) refl

  -- and one that appends those of the next members that pass
  pub more_tested : (f : ℕ → List X) (n : ℕ) (before now next : List X)
      → next ≡ now ++ filter test (f n) → now ≡ before ++ filter test (flat_map f (range_with_len 0 n))
      → next ≡ before ++ filter test (flat_map f (range_with_len 0 (n + 1)))
  more_tested f n before now next step so_far =
      rw (step, so_far, append_assoc, flat_map_range_more f n, filter-append test (flat_map f (range_with_len 0 n)) (f n)) refl

-- a cell so many planes above the lower corner lies in the box
pub cell_inside : (b : Corners) (x y z : ℕ) → AtMost b.lo b.hi → x < span I b → y < span J b → z < span K b → Holds b (cell_at b x y z)
cell_inside b x y z h p q r = record {
  low = record { k = omega (arith, ints); j = omega (arith, ints); i = omega (arith, ints) };
  high = record { k = omega (arith, ints, h.k, r); j = omega (arith, ints, h.j, q); i = omega (arith, ints, h.i, p) };
}
