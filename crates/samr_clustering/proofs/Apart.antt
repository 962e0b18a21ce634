-- The tag fields of a rank's own boxes have no common cell.
use Rattle.std.proofs.Common.{◌≡◌, ◌≤◌, ℕ, ap, arith}
use Rattle.std.proofs.lemmas.List.Sums.{sum_by-cons}
use Rattle.std.specs.Prelude.{Bool, List, [], ◌∷◌, true, false, cond, map, filter, nat_eq, sum_by}
use Rattle.samr_box.specs.declared.vector.IVec.{IVec}
use Rattle.samr_box.specs.Corners.{Corners, holds}
use Rattle.samr_level.specs.Refs.{Owned}
use Rattle.samr_level.specs.Levels.{own, own_boxes, IsLevel}
use Rattle.samr_level.specs.Regions.{Area}
use Rattle.samr_sign.specs.Fields.{Field, AreApart}
use Rattle.samr_rounds.proofs.Lists.{sum_map}
use Rattle.samr_mesh.proofs.CellBounds.{level_once}

abbrev here : IVec → Corners → ℕ
here x b = cond (holds b x) 1 0

less_kept : {X : Type 0} (f : X → ℕ) (x : X) (rest kept : List X) (v : Bool) → sum_by f kept ≤ sum_by f rest → sum_by f (cond v (x ∷ kept) kept) ≤ sum_by f (x ∷ rest)
less_kept f x rest kept true e = omega (arith, sum_by-cons f x kept, sum_by-cons f x rest, e)
less_kept f x rest kept false e = omega (arith, sum_by-cons f x rest, e)

less_filtered : {X : Type 0} (p : X → Bool) (f : X → ℕ) (xs : List X) → sum_by f (filter p xs) ≤ sum_by f xs
less_filtered p f [] = omega arith
less_filtered p f (x ∷ xs) = less_kept f x xs (filter p xs) (p x) (less_filtered p f xs)

pub fields_apart : (a : Area) (ranks : ℕ) (level : List Owned) (rank : ℕ) (fields : List Field) → IsLevel a ranks level → map (λ (f : Field). f.bx) fields ≡ own_boxes rank level → AreApart fields
unfolding own
fields_apart a ranks level rank fields is same x =
    let boxes : List Owned → List Corners = map (λ (b : Owned). b.bx) in
    let kept = filter (λ (b : Owned). nat_eq b.owner rank) level in
    let first = sum_map (here x) (λ (f : Field). f.bx) fields in
    let middle : sum_by (here x) (map (λ (f : Field). f.bx) fields) ≡ sum_by (here x) (boxes kept) = ap (λ (l : List Corners). sum_by (here x) l) same in
    let last = sum_map (here x) (λ (b : Owned). b.bx) kept in
    let less = less_filtered (λ (b : Owned). nat_eq b.owner rank) (λ (b : Owned). here x b.bx) level in
    let whole = sum_map (here x) (λ (b : Owned). b.bx) level in
    let most : sum_by (here x) (boxes level) ≤ 1 = level_once level is.in_order is.disjoint x in
    let all : sum_by (λ (f : Field). here x f.bx) fields ≤ 1 = omega (arith, first, middle, last, less, whole, most) in
    all
