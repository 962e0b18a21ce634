-- The patch of a box that parcels tell of.
use Rattle.std.proofs.Common.{◌≡◌, ℕ, ◌+◌, ◌<◌, ◌≤◌, length, get_or, take, map, refl, sym, ap, subst, ◌∙◌, arith, inl, inr}
use Rattle.std.proofs.lemmas.Bool.{and_parts, or_cases, false≢true}
use Rattle.std.proofs.lemmas.Int.{ints}
use Rattle.std.proofs.lemmas.List.{map_push, take_more, length-take-le}
use Rattle.std.specs.Prelude.{Bool, true, false, cond, not, ◌&&◌, List, [], ◌∷◌, ◌++◌, IsTrue, All}
use Rattle.std.specs.List.{list_any, enumerate_from}
use Rattle.samr_box.specs.declared.vector.IVec.{IVec}
use Rattle.samr_box.specs.Vector.{AtMost}
use Rattle.samr_box.specs.Corners.{Corners, Holds, holds, holds_box, grown}
use Rattle.samr_box.specs.Lists.{Member}
use Rattle.samr_box.proofs.Members.{member_of_All}
use Rattle.samr_box.proofs.CellSets.{Holds-test, holds-from, holds_box-means}
use Rattle.samr_data.specs.Grids.{Grid, grid_of, value_at}
use Rattle.samr_data.proofs.Lists.{listed_same, value_in-listed}
use Rattle.samr_data.specs.declared.parcel.Parcel.{Parcel}
use Rattle.samr_values.specs.Patches.{poured}
use Rattle.samr_values.specs.Parcels.{IsParcel, is_for, has_fine, is_told}
use Rattle.samr_values.proofs.Written.{for_is, not_true}

-- some member of a list passes a test
pub any_one : {X : Type 0} (test : X → Bool) (xs : List X) → list_any test xs ≡ true → (x : X) × Member x xs × (test x ≡ true)
any_one test [] t = absurd (false≢true t)
any_one test (x ∷ xs) t = elim (or_cases (test x) (list_any test xs) t) [
  | inl here ↦ (x, inl refl, here)
  | inr later ↦ let r = any_one test xs later in (r.0, inr r.1, r.2)
]

-- what is told of a box lies in it
pub told_inside : (field : ℕ) (b : Corners) (parcels : List Parcel) (x : IVec) → ((q : Parcel) → Member q parcels → IsParcel q)
    → is_told field b parcels x ≡ true → Holds b x
told_inside field b parcels x are t =
    let r = any_one (λ q. has_fine field b q && holds q.region x) parcels t in
    let q = r.0 in
    let both = and_parts (has_fine field b q) (holds q.region x) r.2 in
    let fine = and_parts (not q.is_coarse) (is_for field b q) both.0 in
    let head = for_is field b q fine.1 in
    let inside = (are q r.1).inside (not_true q.is_coarse fine.0) in
    subst (λ (c : Corners). Holds c x) head (inside_holds q.edge.head.bx q.region x inside (Holds-test {b = q.region} {x = x} both.1))
  where
    inside_holds : (a c : Corners) (y : IVec) → IsTrue (holds_box a c) → Holds c y → Holds a y
    inside_holds a c y t h =
        (holds_box-means a c (record { k = omega (arith, ints, h.low.k, h.high.k); j = omega (arith, ints, h.low.j, h.high.j); i = omega (arith, ints, h.low.i, h.high.i) })).0 t y h

-- values under all cells of a box, and own ones where they are told
pub renewed_grid : (b : Corners) (w : IVec) (under told : IVec → Bool) (u v value : IVec → ℕ) → AtMost (grown b w).lo (grown b w).hi
    → ((x : IVec) → Holds b x → under x ≡ true) → ((x : IVec) → told x ≡ true → Holds b x) → ((x : IVec) → Holds b x → cond (told x) (v x) (u x) ≡ value x)
    → (let zero = grid_of b w (λ _. 0) in poured (poured zero (λ x. holds b x && under x) u) told v) ≡ grid_of b w (λ x. cond (holds b x) (value x) 0)
renewed_grid b w under told u v value order covered inside is =
    let zero : Grid = grid_of b w (λ _. 0) in
    let first : IVec → ℕ = λ x. cond (holds b x && under x) (u x) (value_at zero x) in
    let second : IVec → ℕ = λ x. cond (told x) (v x) (value_at (grid_of b w first) x) in
    ap (λ (l : List ℕ). let p : Grid = record { bx = b; width = w; values = l } in p)
    (listed_same (grown b w) second (λ x. cond (holds b x) (value x) 0) order
    (λ x h.
    ap (λ (n : ℕ). cond (told x) (v x) n) (value_in-listed (grown b w) first x h)
    ∙ ap (λ (n : ℕ). cond (told x) (v x) (cond (holds b x && under x) (u x) n)) (value_in-listed (grown b w) (λ _. 0) x h)
    ∙ by x (holds b x) (told x) refl refl))
  where
    by : (x : IVec) (s t : Bool) → holds b x ≡ s → told x ≡ t → cond (told x) (v x) (cond (holds b x && under x) (u x) 0) ≡ cond (holds b x) (value x) 0
    by x true t e f =
        let has = Holds-test {b = b} {x = x} e in
        ap (λ (a : Bool). cond (told x) (v x) (cond (a && under x) (u x) 0)) e
        ∙ ap (λ (a : Bool). cond (told x) (v x) (cond a (u x) 0)) (covered x has)
        ∙ is x has
        ∙ ap (λ (a : Bool). cond a (value x) 0) (sym e)
    by x false true e f = absurd (false≢true (sym e ∙ holds-from {b = b} {x = x} (inside x f)))
    by x false false e f =
        ap (λ (a : Bool). cond a (v x) (cond (holds b x && under x) (u x) 0)) f
        ∙ ap (λ (a : Bool). cond (a && under x) (u x) 0) e
        ∙ ap (λ (a : Bool). cond a (value x) 0) (sym e)

-- one more member of a numbered list
enumerated : {X : Type 0} (n : ℕ) (xs : List X) (x : X) → enumerate_from n (xs ++ x ∷ []) ≡ enumerate_from n xs ++ (n + length xs, x) ∷ []
enumerated n [] x = ap (λ (k : ℕ). (k, x) ∷ []) (omega arith)
enumerated {X} n (y ∷ xs) x =
    ap (λ (l : List (ℕ × X)). (n, y) ∷ l)
    (enumerated (n + 1) xs x ∙ ap (λ (k : ℕ). enumerate_from (n + 1) xs ++ (k, x) ∷ []) (omega arith))

pub numbered_more : {X Y : Type 0} (f : ℕ × X → Y) (xs : List X) (i : ℕ) (x : X) → i < length xs → x ≡ get_or xs i x
    → map f (enumerate_from 0 (take (i + 1) xs)) ≡ map f (enumerate_from 0 (take i xs)) ++ f (i, x) ∷ []
numbered_more {X} {Y} f xs i x below here =
    ap (λ (l : List X). map f (enumerate_from 0 l)) (take_more xs i x below ∙ ap (λ (y : X). take i xs ++ y ∷ []) (sym here))
    ∙ ap (map f) (enumerated 0 (take i xs) x)
    ∙ map_push f (enumerate_from 0 (take i xs)) (0 + length (take i xs), x)
    ∙ ap (λ (k : ℕ). map f (enumerate_from 0 (take i xs)) ++ f (k, x) ∷ []) (counted xs i below)
  where
    counted : (ys : List X) (k : ℕ) → k < length ys → 0 + length (take k ys) ≡ k
    counted ys k h = let below : k ≤ length ys = omega (arith, h) in omega (arith, length-take-le k ys below)

pub all_parcels : (list : List Parcel) → All IsParcel list → (q : Parcel) → Member q list → IsParcel q
all_parcels list are q m = member_of_All IsParcel q list are m
