-- The cells at the faces of a cell and their sum, and lists of patches made one after another.
use Rattle.std.proofs.Common.{◌≡◌, ℕ, ◌+◌, ◌*◌, ◌<◌, ◌≤◌, ◌++◌, take, take_all, get_or, refl, sym, ap, ◌∙◌, subst, inl, inr, arith, length-take}
use Rattle.std.proofs.lemmas.List.{map_more, map_push, take_more}
use Rattle.samr_values.proofs.Regions.{item_at}
use Rattle.std.proofs.lemmas.Bool.{eqb-true, and_from, cond-true}
use Rattle.std.proofs.lemmas.Option.{slice_get-get_or}
use Rattle.std.specs.Prelude.{Bool, true, false, ◌==◌, if◌then◌else◌, pos, ◌+ℤ◌, ◌-ℤ◌, sum, List, [], ◌∷◌, map, zip, length, slice_get, Some}
use Rattle.std.specs.List.{flat_map}
use Rattle.samr_box.specs.declared.vector.Axis.{Axis}
use Rattle.samr_box.specs.declared.vector.Axis.TheVariants.{I, J, K}
use Rattle.samr_box.specs.declared.vector.IVec.{IVec}
use Rattle.samr_box.specs.Vector.{at, put, at_most, InRange}
use Rattle.samr_box.specs.Corners.{Corners, Holds, holds, holds_box}
use Rattle.samr_box.specs.Lists.{Member}
use Rattle.samr_box.proofs.CellSets.{at_most-from, holds-from}
use Rattle.samr_box.proofs.Vectors.{AtMost-refl, AtMost-trans}
use Rattle.samr_data.specs.Grids.{Grid, IsGrid, over, value_at, grid_of, written, copied}
use Rattle.samr_data.proofs.Lists.{listed_same}

pub in_patch : (p : Grid) (x : IVec) → IsGrid p → Holds (over p) x → InRange x
in_patch p x g h = record { low = AtMost-trans g.whole.low h.low; high = AtMost-trans h.high g.whole.high }

abbrev pub back : Axis → IVec → IVec
back axis x = put axis x (at axis x -ℤ pos 1)

abbrev pub ahead : Axis → IVec → IVec
ahead axis x = put axis x (at axis x +ℤ pos 1)

-- by whether there are two real axes
abbrev pub faces_by : Bool → IVec → List IVec
faces_by t x = flat_map (λ axis. put axis x (at axis x -ℤ pos 1) ∷ put axis x (at axis x +ℤ pos 1) ∷ []) (if t then I ∷ J ∷ [] else I ∷ J ∷ K ∷ [])

pub i_back : (t : Bool) (x : IVec) → Member (back I x) (faces_by t x)
i_back true x = inl refl
i_back false x = inl refl

pub i_ahead : (t : Bool) (x : IVec) → Member (ahead I x) (faces_by t x)
i_ahead true x = inr (inl refl)
i_ahead false x = inr (inl refl)

pub j_back : (t : Bool) (x : IVec) → Member (back J x) (faces_by t x)
j_back true x = inr (inr (inl refl))
j_back false x = inr (inr (inl refl))

pub j_ahead : (t : Bool) (x : IVec) → Member (ahead J x) (faces_by t x)
j_ahead true x = inr (inr (inr (inl refl)))
j_ahead false x = inr (inr (inr (inl refl)))

pub k_back : (t : Bool) (x : IVec) → t ≡ false → Member (back K x) (faces_by t x)
k_back true x e = absurd cc
k_back false x e = inr (inr (inr (inr (inl refl))))

pub k_ahead : (t : Bool) (x : IVec) → t ≡ false → Member (ahead K x) (faces_by t x)
k_ahead true x e = absurd cc
k_ahead false x e = inr (inr (inr (inr (inr (inl refl)))))

pub sum_of_two : (t : Bool) (x : IVec) (v : IVec → ℕ) (a b : ℕ) → t ≡ true → a ≡ v (back I x) + v (ahead I x) → b ≡ v (back J x) + v (ahead J x) → a + b ≡ sum (map v (faces_by t x))
sum_of_two true x v a b e p q = omega (arith, p, q)
sum_of_two false x v a b e p q = absurd cc

pub sum_of_three : (t : Bool) (x : IVec) (v : IVec → ℕ) (a b c : ℕ) → t ≡ false → a ≡ v (back I x) + v (ahead I x) → b ≡ v (back J x) + v (ahead J x) → c ≡ v (back K x) + v (ahead K x)
    → a + b + c ≡ sum (map v (faces_by t x))
sum_of_three true x v a b c e p q r = absurd cc
sum_of_three false x v a b c e p q r = omega (arith, p, q, r)

-- six values below a modulus
pub sum_fits : (t : Bool) (x : IVec) (v : IVec → ℕ) (m : ℕ) → 0 < m → ((y : IVec) → Member y (faces_by t x) → v y < m) → sum (map v (faces_by t x)) < 6 * m
sum_fits true x v m some h =
    let a = h (back I x) (i_back true x) in
    let b = h (ahead I x) (i_ahead true x) in
    let c = h (back J x) (j_back true x) in
    let d = h (ahead J x) (j_ahead true x) in
    omega (arith, a, b, c, d, some)
sum_fits false x v m some h =
    let a = h (back I x) (i_back false x) in
    let b = h (ahead I x) (i_ahead false x) in
    let c = h (back J x) (j_back false x) in
    let d = h (ahead J x) (j_ahead false x) in
    let e = h (back K x) (k_back false x refl) in
    let f = h (ahead K x) (k_ahead false x refl) in
    omega (arith, a, b, c, d, e, f, some)

pub not_two : (n : ℕ) → (n ≡ 2 → ⊥) → (n == 2) ≡ false
not_two n h = by (n == 2) refl
  where
    by : (t : Bool) → (n == 2) ≡ t → t ≡ false
    by true e = absurd (h (eqb-true n 2 e))
    by false e = refl

-- one item more, made of the item at a place
pub made_more : {X Y : Type 0} (f : X → Y) (xs : List X) (i : ℕ) (x : X) (y : Y) (out : List Y) → i < length xs → x ≡ get_or xs i x → out ≡ map f (take i xs) → y ≡ f x
    → out ++ y ∷ [] ≡ map f (take (i + 1) xs)
made_more f xs i x y out less is before made =
    ap (λ l. l ++ y ∷ []) before ∙ ap (λ z. map f (take i xs) ++ z ∷ []) (made ∙ ap f is) ∙ sym (map_more f xs i x less)

pub there_at : {X : Type 0} (xs : List X) (i : ℕ) (x : X) → i < length xs → x ≡ get_or xs i x → slice_get xs i ≡ Some x
there_at {X} xs i x more is = slice_get-get_or xs i x more ∙ ap (λ (v : X). Some v) (sym is)

pub item_in : {X : Type 0} (xs : List X) (i : ℕ) (x : X) → i < length xs → x ≡ get_or xs i x → Member x xs
item_in xs i x less is = item_at xs i x (there_at xs i x less is)

-- two lists side by side
pub pairs_more : {X Y Z : Type 0} (f : X × Y → Z) (xs : List X) (ys : List Y) (i : ℕ) (x : X) (y : Y) (z : Z) (out : List Z) → length ys ≡ length xs → i < length xs
    → x ≡ get_or xs i x → y ≡ get_or ys i y → out ≡ map f (zip (take i xs) (take i ys)) → z ≡ f (x, y) → out ++ z ∷ [] ≡ map f (zip (take (i + 1) xs) (take (i + 1) ys))
pairs_more {X} {Y} f xs ys i x y z out same less is js before made =
    let more : i < length ys = omega (arith, less, same) in
    let a = take_more xs i x less in
    let b = take_more ys i y more in
    let c = zip_push (take i xs) (take i ys) (get_or xs i x) (get_or ys i y) (length_taken xs ys i same) in
    ap (λ l. l ++ z ∷ []) before
    ∙ ap (λ v. map f (zip (take i xs) (take i ys)) ++ v ∷ []) (made ∙ ap (λ (u : X). f (u, y)) is ∙ ap (λ (u : Y). f (get_or xs i x, u)) js)
    ∙ sym (map_push f (zip (take i xs) (take i ys)) (get_or xs i x, get_or ys i y))
    ∙ ap (map f) (sym c ∙ ap (λ (l : List X). zip l (take i ys ++ get_or ys i y ∷ [])) (sym a) ∙ ap (λ (l : List Y). zip (take (i + 1) xs) l) (sym b))
  where
    zip_push : (us : List X) (vs : List Y) (u : X) (v : Y) → length vs ≡ length us → zip (us ++ u ∷ []) (vs ++ v ∷ []) ≡ zip us vs ++ (u, v) ∷ []
    zip_push [] [] u v e = refl
    zip_push [] (b ∷ vs) u v e = absurd (omega (arith, e))
    zip_push (a ∷ us) [] u v e = absurd (omega (arith, e))
    zip_push (a ∷ us) (b ∷ vs) u v e = ap (λ l. (a, b) ∷ l) (zip_push us vs u v (omega (arith, e)))

    length_taken : (us : List X) (vs : List Y) (n : ℕ) → length vs ≡ length us → length (take n vs) ≡ length (take n us)
    length_taken us vs n e = let p = length-take n us in let q = length-take n vs in omega (arith, p, q, e)

pub pairs_end : {X Y Z : Type 0} (f : X × Y → Z) (xs : List X) (ys : List Y) (n : ℕ) (out : List Z) → length ys ≡ length xs → length xs ≤ n
    → out ≡ map f (zip (take n xs) (take n ys)) → out ≡ map f (zip xs ys)
pairs_end {X} {Y} f xs ys n out same most is =
    is ∙ ap (λ (l : List X). map f (zip l (take n ys))) (take_all n xs most) ∙ ap (λ (l : List Y). map f (zip xs l)) (take_all n ys (omega (arith, most, same)))

-- a new patch of the same box, with all its values written
pub holds_self : (b : Corners) → holds_box b b ≡ true
holds_self b = and_from (at_most b.lo b.lo) (at_most b.hi b.hi) (at_most-from (AtMost-refl b.lo)) (at_most-from (AtMost-refl b.hi))

pub all_written : (p out q : Grid) (whole : Corners) (f : IVec → ℕ) → IsGrid p → out ≡ grid_of p.bx p.width (λ _. 0) → whole ≡ over p
    → q ≡ written out (copied out whole f) → q ≡ written p f
all_written p out q whole f g made all is =
    is
    ∙ ap (λ (o : Grid). written o (copied o whole f)) made
    ∙ ap (λ (l : List ℕ). let o : Grid = record { bx = p.bx; width = p.width; values = l } in o)
    (listed_same (over p) (copied (grid_of p.bx p.width (λ _. 0)) whole f) f g.whole.order
    (λ x h. cond-true (holds whole x) (f x) (value_at (grid_of p.bx p.width (λ _. 0)) x) (holds-from (subst (λ (c : Corners). Holds c x) (sym all) h))))
