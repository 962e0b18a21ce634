-- The order of pieces that are told of is total, and what is equal by it is the same.
use Rattle.std.proofs.Common.{◌≡◌, ap, ◌∙◌}
use Rattle.std.proofs.lemmas.Cmp.{on_total, then_total}
use Rattle.std.specs.Cmp.{IsTotalOrder}
use Rattle.std.specs.declared.cmp.Ordering.TheVariants.{Equal}
use Rattle.samr_box.specs.Corners.{Corners}
use Rattle.samr_box.specs.Orders.{corner_cmp}
use Rattle.samr_box.proofs.Totals.{corner_total, both, same_from_corner_cmp}
use Rattle.samr_balance.specs.HomeRow.{Cutting, cutting_cmp}

pub cutting_total : IsTotalOrder cutting_cmp
cutting_total = then_total (on_total (λ (c : Cutting). c.origin) corner_total) (on_total (λ (c : Cutting). c.bx) corner_total)

same_cutting : {a b : Cutting} → a.origin ≡ b.origin → a.bx ≡ b.bx → a ≡ b
same_cutting {a} {b} origin bx =
    ap (λ (o : Corners). let c : Cutting = record { origin = o; bx = a.bx } in c) origin
    ∙ ap (λ (x : Corners). let c : Cutting = record { origin = b.origin; bx = x } in c) bx

pub same_from_cutting_cmp : (a b : Cutting) → cutting_cmp a b ≡ Equal → a ≡ b
same_from_cutting_cmp a b e =
    let parts = both (corner_cmp a.origin b.origin) (corner_cmp a.bx b.bx) e in
    same_cutting (same_from_corner_cmp a.origin b.origin parts.0) (same_from_corner_cmp a.bx b.bx parts.1)
