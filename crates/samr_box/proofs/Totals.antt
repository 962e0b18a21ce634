-- The orders of lists are total, and what is equal by them is the same.
use Rattle.std.proofs.Common.{◌≡◌, refl, ap, ◌∙◌}
use Rattle.std.proofs.lemmas.Cmp.{int_cmp_total, on_total, then_total, int_ranked}
use Rattle.std.specs.Cmp.{IsTotalOrder}
use Rattle.std.specs.Prelude.{ℤ, ◌<ℤ◌}
use Rattle.std.specs.Ordering.{int_cmp, ordering_then, MatchOrdering}
use Rattle.std.specs.declared.cmp.Ordering.{Ordering}
use Rattle.std.specs.declared.cmp.Ordering.TheVariants.{Less, Equal, Greater}
use Rattle.samr_box.specs.declared.vector.IVec.{IVec}
use Rattle.samr_box.specs.Corners.{Corners}
use Rattle.samr_box.specs.Orders.{cell_cmp, corner_cmp}
use Rattle.samr_box.proofs.Vectors.{same_cell}

pub cell_total : IsTotalOrder cell_cmp
cell_total =
    then_total (on_total (λ (x : IVec). x.k) int_cmp_total)
    (then_total (on_total (λ (x : IVec). x.j) int_cmp_total) (on_total (λ (x : IVec). x.i) int_cmp_total))

pub corner_total : IsTotalOrder corner_cmp
corner_total = then_total (on_total (λ (b : Corners). b.lo) cell_total) (on_total (λ (b : Corners). b.hi) cell_total)

less≢equal : Less ≡ Equal → ⊥
less≢equal e = cc

greater≢equal : Greater ≡ Equal → ⊥
greater≢equal e = cc

pub both : (o p : Ordering) → ordering_then o p ≡ Equal → (o ≡ Equal) × (p ≡ Equal)
both Less p e = absurd (less≢equal e)
both Equal p e = (refl, e)
both Greater p e = absurd (greater≢equal e)

pub same_int : (x y : ℤ) → int_cmp x y ≡ Equal → x ≡ y
same_int x y e = by_rank (int_cmp x y) (int_ranked x y (int_cmp x y) refl) e
  where
    by_rank : (o : Ordering) → MatchOrdering o (x <ℤ y) (x ≡ y) (y <ℤ x) → o ≡ Equal → x ≡ y
    by_rank Less m e = absurd (less≢equal e)
    by_rank Equal m e = m
    by_rank Greater m e = absurd (greater≢equal e)

pub same_from_cell_cmp : (a b : IVec) → cell_cmp a b ≡ Equal → a ≡ b
same_from_cell_cmp a b e =
    let p = both (int_cmp a.k b.k) (ordering_then (int_cmp a.j b.j) (int_cmp a.i b.i)) e in
    let q = both (int_cmp a.j b.j) (int_cmp a.i b.i) p.1 in
    same_cell (same_int a.k b.k p.0) (same_int a.j b.j q.0) (same_int a.i b.i q.1)

pub same_corners : {a b : Corners} → a.lo ≡ b.lo → a.hi ≡ b.hi → a ≡ b
same_corners {a} {b} lo hi =
    ap (λ (v : IVec). let c : Corners = record { lo = v; hi = a.hi } in c) lo
    ∙ ap (λ (v : IVec). let c : Corners = record { lo = b.lo; hi = v } in c) hi

pub same_from_corner_cmp : (a b : Corners) → corner_cmp a b ≡ Equal → a ≡ b
same_from_corner_cmp a b e =
    let p = both (cell_cmp a.lo b.lo) (cell_cmp a.hi b.hi) e in
    same_corners (same_from_cell_cmp a.lo b.lo p.0) (same_from_cell_cmp a.hi b.hi p.1)
