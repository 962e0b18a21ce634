-- The test for equality of boxes agrees with corner order.
use Rattle.std.proofs.Common.{◌≡◌, refl, ap, ◌∙◌}
use Rattle.std.specs.Prelude.{Bool, ◌&&◌}
use Rattle.std.specs.Ordering.{int_cmp, ordering_then, int_eq, is_eq, eq_by_cmp}
use Rattle.std.specs.declared.cmp.Ordering.{Ordering}
use Rattle.std.specs.declared.cmp.Ordering.TheVariants.{Less, Equal, Greater}
use Rattle.samr_box.specs.declared.vector.IVec.{IVec}
use Rattle.samr_box.specs.Corners.{Corners}
use Rattle.samr_box.specs.Orders.{cell_cmp, corner_cmp}

abbrev pub cell_same : IVec → IVec → Bool
cell_same a b = int_eq a.k b.k && (int_eq a.j b.j && int_eq a.i b.i)

abbrev pub corner_same : Corners → Corners → Bool
corner_same a b = cell_same a.lo b.lo && cell_same a.hi b.hi

ties_then : (o p : Ordering) → (is_eq o && is_eq p) ≡ is_eq (ordering_then o p)
ties_then Less p = refl
ties_then Equal p = refl
ties_then Greater p = refl

then_ties : {s t : Bool} (o p : Ordering) → s ≡ is_eq o → t ≡ is_eq p → (s && t) ≡ is_eq (ordering_then o p)
then_ties {s} {t} o p e f = ap (λ (v : Bool). v && t) e ∙ ap (λ (v : Bool). is_eq o && v) f ∙ ties_then o p

cell_ties : (a b : IVec) → cell_same a b ≡ eq_by_cmp cell_cmp a b
cell_ties a b =
    then_ties (int_cmp a.k b.k) (ordering_then (int_cmp a.j b.j) (int_cmp a.i b.i)) refl
    (then_ties (int_cmp a.j b.j) (int_cmp a.i b.i) refl refl)

pub corner_ties : (a b : Corners) → corner_same a b ≡ eq_by_cmp corner_cmp a b
corner_ties a b = then_ties (cell_cmp a.lo b.lo) (cell_cmp a.hi b.hi) (cell_ties a.lo b.lo) (cell_ties a.hi b.hi)
