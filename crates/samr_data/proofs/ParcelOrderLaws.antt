-- The order of parcels is total, and parcels that are equal by it are the same.
use Rattle.std.proofs.Common.{◌≡◌, ℕ, refl, ap, ◌∙◌}
use Rattle.std.proofs.lemmas.Cmp.{nat_cmp_total, nat_list_cmp_total, on_total, then_total}
use Rattle.std.specs.Cmp.{IsTotalOrder, bool_cmp_total}
use Rattle.std.specs.Cmp.Lexicographic.{slice_cmp}
use Rattle.std.specs.Prelude.{Bool, true, false, List, [], ◌∷◌, IsPermutation, IsSorted}
use Rattle.std.specs.List.{dedup}
use Rattle.std.specs.Ordering.{nat_cmp, bool_cmp, ordering_then, is_eq}
use Rattle.std.specs.declared.cmp.Ordering.TheVariants.{Less, Equal, Greater}
use Rattle.samr_box.specs.Corners.{Corners}
use Rattle.samr_box.specs.Orders.{corner_cmp}
use Rattle.samr_box.proofs.Totals.{corner_total, both, same_from_corner_cmp}
use Rattle.samr_level.specs.Refs.{Link}
use Rattle.samr_level.specs.RefOrders.{edge_cmp, in_order}
use Rattle.samr_level.proofs.RefLaws.{edge_total, same_nat, same_from_edge_cmp}
use Rattle.samr_level.proofs.Sorting.{settled_is}
use Rattle.samr_data.specs.declared.parcel.Parcel.{Parcel}
use Rattle.samr_data.specs.ParcelOrder.{parcel_cmp}

pub parcel_total : IsTotalOrder parcel_cmp
parcel_total =
    then_total (on_total (λ (p : Parcel). p.edge) edge_total)
    (then_total (on_total (λ (p : Parcel). p.is_coarse) bool_cmp_total)
    (then_total (on_total (λ (p : Parcel). p.field) nat_cmp_total)
    (then_total (on_total (λ (p : Parcel). p.region) corner_total) (on_total (λ (p : Parcel). p.values) nat_list_cmp_total))))

not_less : Less ≡ Equal → ⊥
not_less e = cc

not_greater : Greater ≡ Equal → ⊥
not_greater e = cc

same_bool : (s t : Bool) → bool_cmp s t ≡ Equal → s ≡ t
same_bool false false e = refl
same_bool false true e = absurd (not_less e)
same_bool true false e = absurd (not_greater e)
same_bool true true e = refl

same_list : (xs ys : List ℕ) → slice_cmp nat_cmp xs ys ≡ Equal → xs ≡ ys
same_list [] [] e = refl
same_list [] (y ∷ ys) e = absurd (not_less e)
same_list (x ∷ xs) [] e = absurd (not_greater e)
same_list (x ∷ xs) (y ∷ ys) e =
    let p = both (nat_cmp x y) (slice_cmp nat_cmp xs ys) e in
    ap (λ (n : ℕ). n ∷ xs) (same_nat x y p.0) ∙ ap (λ (l : List ℕ). y ∷ l) (same_list xs ys p.1)

same_parcel : (p q : Parcel) → p.edge ≡ q.edge → p.is_coarse ≡ q.is_coarse → p.field ≡ q.field → p.region ≡ q.region → p.values ≡ q.values → p ≡ q
same_parcel p q edge is_coarse field region values =
    ap (λ (e : Link). let r : Parcel = record { edge = e; is_coarse = p.is_coarse; field = p.field; region = p.region; values = p.values } in r) edge
    ∙ ap (λ (t : Bool). let r : Parcel = record { edge = q.edge; is_coarse = t; field = p.field; region = p.region; values = p.values } in r) is_coarse
    ∙ ap (λ (n : ℕ). let r : Parcel = record { edge = q.edge; is_coarse = q.is_coarse; field = n; region = p.region; values = p.values } in r) field
    ∙ ap (λ (b : Corners). let r : Parcel = record { edge = q.edge; is_coarse = q.is_coarse; field = q.field; region = b; values = p.values } in r) region
    ∙ ap (λ (l : List ℕ). let r : Parcel = record { edge = q.edge; is_coarse = q.is_coarse; field = q.field; region = q.region; values = l } in r) values

pub same_from_parcel_cmp : (p q : Parcel) → parcel_cmp p q ≡ Equal → p ≡ q
same_from_parcel_cmp p q e =
    let values = slice_cmp nat_cmp p.values q.values in
    let regions = ordering_then (corner_cmp p.region q.region) values in
    let numbers = ordering_then (nat_cmp p.field q.field) regions in
    let a = both (edge_cmp p.edge q.edge) (ordering_then (bool_cmp p.is_coarse q.is_coarse) numbers) e in
    let b = both (bool_cmp p.is_coarse q.is_coarse) numbers a.1 in
    let c = both (nat_cmp p.field q.field) regions b.1 in
    let d = both (corner_cmp p.region q.region) values c.1 in
    same_parcel p q (same_from_edge_cmp p.edge q.edge a.0) (same_bool p.is_coarse q.is_coarse b.0) (same_nat p.field q.field c.0)
    (same_from_corner_cmp p.region q.region d.0) (same_list p.values q.values d.1)

-- the test for equality
abbrev pub parcel_same : Parcel → Parcel → Bool
parcel_same p q = is_eq (parcel_cmp p q)

pub parcels_settled : (xs sorted : List Parcel) → IsPermutation xs sorted → IsSorted parcel_cmp sorted → dedup parcel_same sorted ≡ in_order parcel_cmp xs
parcels_settled xs sorted p s = settled_is parcel_total same_from_parcel_cmp parcel_same (λ x y. refl) xs sorted p s
