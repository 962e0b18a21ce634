-- Requests in their order, and those for a rank.
use Rattle.std.proofs.Common.{◌≡◌, ℕ, refl, ap, ◌∙◌}
use Rattle.std.proofs.lemmas.Cmp.{nat_cmp_total, on_total, then_total}
use Rattle.std.specs.Cmp.{IsTotalOrder, unsigned_ties}
use Rattle.std.specs.Prelude.{Bool, ◌&&◌, nat_eq}
use Rattle.std.specs.Ordering.{nat_cmp, int_cmp, ordering_then, is_eq, eq_by_cmp}
use Rattle.std.specs.declared.cmp.Ordering.{Ordering}
use Rattle.std.specs.declared.cmp.Ordering.TheVariants.{Less, Equal, Greater}
use Rattle.samr_box.specs.declared.vector.IVec.{IVec}
use Rattle.samr_box.specs.Corners.{Corners}
use Rattle.samr_box.specs.Orders.{cell_cmp, corner_cmp}
use Rattle.samr_box.proofs.Totals.{corner_total, both, same_from_corner_cmp}
use Rattle.samr_level.specs.Refs.{Link}
use Rattle.samr_level.specs.RefOrders.{edge_cmp}
use Rattle.samr_level.proofs.RefLaws.{edge_total, same_nat, same_from_edge_cmp, cell_same, edge_same, edge_ties}
use Rattle.samr_sched.specs.declared.plan.Request.{Request}
use Rattle.samr_sched.specs.Plans.{request_cmp}

pub request_total : IsTotalOrder request_cmp
request_total =
    then_total (on_total (λ (q : Request). q.edge) edge_total)
    (then_total (on_total (λ (q : Request). q.field) nat_cmp_total) (on_total (λ (q : Request). q.bx) corner_total))

same_request : {p q : Request} → p.edge ≡ q.edge → p.field ≡ q.field → p.bx ≡ q.bx → p ≡ q
same_request {p} {q} edge field bx =
    ap (λ (e : Link). let r : Request = record { edge = e; field = p.field; bx = p.bx } in r) edge
    ∙ ap (λ (n : ℕ). let r : Request = record { edge = q.edge; field = n; bx = p.bx } in r) field
    ∙ ap (λ (b : Corners). let r : Request = record { edge = q.edge; field = q.field; bx = b } in r) bx

pub same_from_request_cmp : (p q : Request) → request_cmp p q ≡ Equal → p ≡ q
same_from_request_cmp p q e =
    let f = both (edge_cmp p.edge q.edge) (ordering_then (nat_cmp p.field q.field) (corner_cmp p.bx q.bx)) e in
    let g = both (nat_cmp p.field q.field) (corner_cmp p.bx q.bx) f.1 in
    same_request (same_from_edge_cmp p.edge q.edge f.0) (same_nat p.field q.field g.0) (same_from_corner_cmp p.bx q.bx g.1)

-- the derived test for equality
abbrev pub corner_same : Corners → Corners → Bool
corner_same a b = cell_same a.lo b.lo && cell_same a.hi b.hi

abbrev pub request_same : Request → Request → Bool
request_same p q = edge_same p.edge q.edge && (nat_eq p.field q.field && corner_same p.bx q.bx)

ties_then : (o p : Ordering) → (is_eq o && is_eq p) ≡ is_eq (ordering_then o p)
ties_then Less p = refl
ties_then Equal p = refl
ties_then Greater p = refl

then_ties : {s t : Bool} (o p : Ordering) → s ≡ is_eq o → t ≡ is_eq p → (s && t) ≡ is_eq (ordering_then o p)
then_ties {s} {t} o p e f = ap (λ (v : Bool). v && t) e ∙ ap (λ (v : Bool). is_eq o && v) f ∙ ties_then o p

cell_ties : (a b : IVec) → cell_same a b ≡ eq_by_cmp cell_cmp a b
cell_ties a b =
    then_ties (int_cmp a.k b.k) (ordering_then (int_cmp a.j b.j) (int_cmp a.i b.i)) refl
    (then_ties (int_cmp a.j b.j) (int_cmp a.i b.i) refl refl)

corner_ties : (a b : Corners) → corner_same a b ≡ eq_by_cmp corner_cmp a b
corner_ties a b = then_ties (cell_cmp a.lo b.lo) (cell_cmp a.hi b.hi) (cell_ties a.lo b.lo) (cell_ties a.hi b.hi)

pub request_ties : (p q : Request) → request_same p q ≡ eq_by_cmp request_cmp p q
request_ties p q =
    then_ties (edge_cmp p.edge q.edge) (ordering_then (nat_cmp p.field q.field) (corner_cmp p.bx q.bx)) (edge_ties p.edge q.edge)
    (then_ties (nat_cmp p.field q.field) (corner_cmp p.bx q.bx) (unsigned_ties p.field q.field) (corner_ties p.bx q.bx))
