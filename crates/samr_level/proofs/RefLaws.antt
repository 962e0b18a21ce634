-- Level order and edge order are total, what is equal by them is the same, and the tests for equality agree with them.
use Rattle.std.proofs.Common.{◌≡◌, ℕ, ◌<◌, refl, ap, ◌∙◌}
use Rattle.std.proofs.lemmas.Cmp.{nat_cmp_total, on_total, then_total}
use Rattle.std.specs.Cmp.{IsTotalOrder, ranks, unsigned_ties}
use Rattle.std.specs.Prelude.{Bool, ◌&&◌, nat_eq}
use Rattle.std.specs.Ordering.{nat_cmp, int_cmp, ordering_then, MatchOrdering, int_eq, is_eq, eq_by_cmp}
use Rattle.std.specs.declared.cmp.Ordering.{Ordering}
use Rattle.std.specs.declared.cmp.Ordering.TheVariants.{Less, Equal, Greater}
use Rattle.samr_box.specs.declared.vector.IVec.{IVec}
use Rattle.samr_box.specs.Corners.{Corners}
use Rattle.samr_box.specs.Orders.{cell_cmp, corner_cmp}
use Rattle.samr_box.proofs.Totals.{cell_total, corner_total, both, same_from_cell_cmp, same_from_corner_cmp}
use Rattle.samr_level.specs.Refs.{Owned, Link}
use Rattle.samr_level.specs.RefOrders.{ref_cmp, edge_cmp}

pub ref_total : IsTotalOrder ref_cmp
ref_total = then_total (on_total (λ (b : Owned). b.owner) nat_cmp_total) (on_total (λ (b : Owned). b.bx) corner_total)

pub edge_total : IsTotalOrder edge_cmp
edge_total =
    then_total (on_total (λ (e : Link). e.base) ref_total)
    (then_total (on_total (λ (e : Link). e.head) ref_total) (on_total (λ (e : Link). e.shift) cell_total))

pub same_nat : (x y : ℕ) → nat_cmp x y ≡ Equal → x ≡ y
same_nat x y e = by_rank (nat_cmp x y) (ranks x y) e
  where
    by_rank : (o : Ordering) → MatchOrdering o (x < y) (x ≡ y) (y < x) → o ≡ Equal → x ≡ y
    by_rank Less m e = absurd (less≢equal e)
      where
        less≢equal : Less ≡ Equal → ⊥
        less≢equal e = cc
    by_rank Equal m e = m
    by_rank Greater m e = absurd (greater≢equal e)
      where
        greater≢equal : Greater ≡ Equal → ⊥
        greater≢equal e = cc

pub same_owned : {a b : Owned} → a.owner ≡ b.owner → a.bx ≡ b.bx → a ≡ b
same_owned {a} {b} owner bx =
    ap (λ (n : ℕ). let o : Owned = record { owner = n; bx = a.bx } in o) owner
    ∙ ap (λ (c : Corners). let o : Owned = record { owner = b.owner; bx = c } in o) bx

pub same_link : {a b : Link} → a.base ≡ b.base → a.head ≡ b.head → a.shift ≡ b.shift → a ≡ b
same_link {a} {b} base head shift =
    ap (λ (o : Owned). let e : Link = record { base = o; head = a.head; shift = a.shift } in e) base
    ∙ ap (λ (o : Owned). let e : Link = record { base = b.base; head = o; shift = a.shift } in e) head
    ∙ ap (λ (s : IVec). let e : Link = record { base = b.base; head = b.head; shift = s } in e) shift

pub same_from_ref_cmp : (a b : Owned) → ref_cmp a b ≡ Equal → a ≡ b
same_from_ref_cmp a b e =
    let p = both (nat_cmp a.owner b.owner) (corner_cmp a.bx b.bx) e in
    same_owned (same_nat a.owner b.owner p.0) (same_from_corner_cmp a.bx b.bx p.1)

pub same_from_edge_cmp : (a b : Link) → edge_cmp a b ≡ Equal → a ≡ b
same_from_edge_cmp a b e =
    let p = both (ref_cmp a.base b.base) (ordering_then (ref_cmp a.head b.head) (cell_cmp a.shift b.shift)) e in
    let q = both (ref_cmp a.head b.head) (cell_cmp a.shift b.shift) p.1 in
    same_link (same_from_ref_cmp a.base b.base p.0) (same_from_ref_cmp a.head b.head q.0) (same_from_cell_cmp a.shift b.shift q.1)

-- the derived tests for equality
abbrev pub cell_same : IVec → IVec → Bool
cell_same a b = int_eq a.k b.k && (int_eq a.j b.j && int_eq a.i b.i)

abbrev pub ref_same : Owned → Owned → Bool
ref_same a b = nat_eq a.owner b.owner && (cell_same a.bx.lo b.bx.lo && cell_same a.bx.hi b.bx.hi)

abbrev pub edge_same : Link → Link → Bool
edge_same a b = ref_same a.base b.base && (ref_same a.head b.head && cell_same a.shift b.shift)

ties_then : (o p : Ordering) → (is_eq o && is_eq p) ≡ is_eq (ordering_then o p)
ties_then Less p = refl
ties_then Equal p = refl
ties_then Greater p = refl

then_ties : {s t : Bool} (o p : Ordering) → s ≡ is_eq o → t ≡ is_eq p → (s && t) ≡ is_eq (ordering_then o p)
then_ties {s} {t} o p e f = ap (λ (v : Bool). v && t) e ∙ ap (λ (v : Bool). is_eq o && v) f ∙ ties_then o p

cell_ties : (a b : IVec) → cell_same a b ≡ eq_by_cmp cell_cmp a b
cell_ties a b =
    then_ties (int_cmp a.k b.k) (ordering_then (int_cmp a.j b.j) (int_cmp a.i b.i)) refl
    (then_ties (int_cmp a.j b.j) (int_cmp a.i b.i) refl refl)

pub ref_ties : (a b : Owned) → ref_same a b ≡ eq_by_cmp ref_cmp a b
ref_ties a b =
    then_ties (nat_cmp a.owner b.owner) (corner_cmp a.bx b.bx) (unsigned_ties a.owner b.owner)
    (then_ties (cell_cmp a.bx.lo b.bx.lo) (cell_cmp a.bx.hi b.bx.hi) (cell_ties a.bx.lo b.bx.lo) (cell_ties a.bx.hi b.bx.hi))

pub edge_ties : (a b : Link) → edge_same a b ≡ eq_by_cmp edge_cmp a b
edge_ties a b =
    then_ties (ref_cmp a.base b.base) (ordering_then (ref_cmp a.head b.head) (cell_cmp a.shift b.shift)) (ref_ties a.base b.base)
    (then_ties (ref_cmp a.head b.head) (cell_cmp a.shift b.shift) (ref_ties a.head b.head) (cell_ties a.shift b.shift))
