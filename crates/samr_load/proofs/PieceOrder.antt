-- The order of pieces is total, and what is equal by it is the same.
use Rattle.std.proofs.Common.{◌≡◌, ap, ◌∙◌}
use Rattle.std.proofs.lemmas.Cmp.{on_total, then_total}
use Rattle.std.specs.Cmp.{IsTotalOrder}
use Rattle.std.specs.declared.cmp.Ordering.TheVariants.{Equal}
use Rattle.samr_box.specs.Corners.{Corners}
use Rattle.samr_box.specs.Orders.{corner_cmp}
use Rattle.samr_box.proofs.Totals.{corner_total, both, same_from_corner_cmp}
use Rattle.samr_level.specs.Refs.{Owned}
use Rattle.samr_level.specs.RefOrders.{ref_cmp}
use Rattle.samr_level.proofs.RefLaws.{ref_total, same_from_ref_cmp}
use Rattle.samr_load.specs.Pieces.{Placed, piece_cmp}

pub piece_total : IsTotalOrder piece_cmp
piece_total = then_total (on_total (λ (p : Placed). p.bx) corner_total) (on_total (λ (p : Placed). p.origin) ref_total)

same_placed : {p q : Placed} → p.bx ≡ q.bx → p.origin ≡ q.origin → p ≡ q
same_placed {p} {q} bx origin =
    ap (λ (b : Corners). let r : Placed = record { bx = b; origin = p.origin } in r) bx
    ∙ ap (λ (o : Owned). let r : Placed = record { bx = q.bx; origin = o } in r) origin

pub same_from_piece_cmp : (p q : Placed) → piece_cmp p q ≡ Equal → p ≡ q
same_from_piece_cmp p q e =
    let parts = both (corner_cmp p.bx q.bx) (ref_cmp p.origin q.origin) e in
    same_placed (same_from_corner_cmp p.bx q.bx parts.0) (same_from_ref_cmp p.origin q.origin parts.1)
