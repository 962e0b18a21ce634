-- Tests of boxes and steps of loops.
use Rattle.std.proofs.Common.{◌≡◌, ℕ, ◌+◌, ◌<◌, refl, sym, ap, ◌∙◌, inl, length, get_or, take, map, not, arith}
use Rattle.std.proofs.lemmas.Bool.{false≢true}
use Rattle.std.proofs.lemmas.List.{length-take-le}
use Rattle.std.proofs.lemmas.Int.{ints, clamps}
use Rattle.std.specs.Prelude.{ℤ, Bool, true, false, ◌&&◌, List, [], ◌∷◌, ◌++◌, Some}
use Rattle.std.proofs.lemmas.Option.{slice_get-get_or}
use Rattle.std.specs.List.{enumerate_from}
use Rattle.samr_box.specs.declared.vector.IVec.{IVec}
use Rattle.samr_box.specs.Vector.{at_most, AtMost, times, least, greatest, IsRatio}
use Rattle.samr_box.specs.Corners.{Corners, IsBox, meets}
use Rattle.samr_box.specs.Ratios.{coarse, floor}
use Rattle.samr_box.specs.Lists.{Member}
use Rattle.samr_box.proofs.Vectors.{same_cell}
use Rattle.samr_box.proofs.Products.{mul_comm}
use Rattle.samr_box.proofs.Floors.{floor-mul}
use Rattle.samr_boxlist.proofs.Steps.{take_step}
use Rattle.samr_level.proofs.Steps.{map_append}

and_swap : (s t : Bool) → (s && t) ≡ (t && s)
and_swap true true = refl
and_swap true false = refl
and_swap false true = refl
and_swap false false = refl

pub meets_swap : (a b : Corners) → meets a b ≡ meets b a
meets_swap a b = and_swap (at_most a.lo b.hi) (at_most b.lo a.hi)

-- the quotients of a product
pub quotient_is : (c s f : IVec) → IsRatio c → times c s ≡ f → coarse f c ≡ s
quotient_is c s f h e =
    ap (λ (v : IVec). coarse v c) (sym e)
    ∙ same_cell
    (ap (λ (v : ℤ). floor v c.k) (mul_comm c.k s.k) ∙ floor-mul c.k s.k (let low = h.low.k in omega (arith, ints, low)))
    (ap (λ (v : ℤ). floor v c.j) (mul_comm c.j s.j) ∙ floor-mul c.j s.j (let low = h.low.j in omega (arith, ints, low)))
    (ap (λ (v : ℤ). floor v c.i) (mul_comm c.i s.i) ∙ floor-mul c.i s.i (let low = h.low.i in omega (arith, ints, low)))

-- a numbered list with one member more
pub enumerate_push : {X : Type 0} (n : ℕ) (xs : List X) (x : X) → enumerate_from n (xs ++ x ∷ []) ≡ enumerate_from n xs ++ (n + length xs, x) ∷ []
enumerate_push {X} n [] x = ap (λ (k : ℕ). (let p : ℕ × X = (k, x) in p) ∷ []) (omega arith)
enumerate_push {X} n (y ∷ ys) x =
    ap (λ (l : List (ℕ × X)). (n, y) ∷ l) (enumerate_push (n + 1) ys x ∙ ap (λ (k : ℕ). enumerate_from (n + 1) ys ++ (k, x) ∷ []) (omega arith))

pub numbered_more : {X Y : Type 0} (f : ℕ × X → Y) (xs : List X) (i n : ℕ) (x : X) (out out' : List Y) (y : Y) → i < length xs → x ≡ get_or xs i x
    → n ≡ length (take i xs) → out ≡ map f (enumerate_from 0 (take i xs)) → y ≡ f (n, x) → out' ≡ out ++ y ∷ [] → out' ≡ map f (enumerate_from 0 (take (i + 1) xs))
numbered_more {X} {Y} f xs i n x out out' y more is number so_far made step =
    step ∙ ap (λ (l : List Y). l ++ y ∷ []) so_far
    ∙ ap (λ (v : Y). map f (enumerate_from 0 (take i xs)) ++ v ∷ []) (made ∙ ap (λ (k : ℕ). f (k, x)) number)
    ∙ sym (map_append f (enumerate_from 0 (take i xs)) ((length (take i xs), x) ∷ []))
    ∙ ap (λ (k : ℕ). map f (enumerate_from 0 (take i xs) ++ (k, x) ∷ [])) (omega arith)
    ∙ ap (map f) (sym (enumerate_push 0 (take i xs) x))
    ∙ ap (λ (l : List X). map f (enumerate_from 0 l)) (sym (take_step xs i x more is))

pub taken : {X : Type 0} (i : ℕ) (xs : List X) → i < length xs → i ≡ length (take i xs)
taken i xs more = sym (length-take-le i xs (omega (arith, more)))

-- the part of a box between two corners is a box
pub IsBox-met : (b : Corners) (lo hi : IVec) → IsBox b → AtMost lo hi → AtMost b.lo hi → AtMost lo b.hi
    → IsBox (record { lo = greatest b.lo lo; hi = least b.hi hi })
IsBox-met b lo hi p full low high = record {
  low = record { k = omega (arith, ints, clamps, p.low.k); j = omega (arith, ints, clamps, p.low.j); i = omega (arith, ints, clamps, p.low.i) };
  order = record {
    k = omega (arith, ints, clamps, full.k, p.order.k, low.k, high.k);
    j = omega (arith, ints, clamps, full.j, p.order.j, low.j, high.j);
    i = omega (arith, ints, clamps, full.i, p.order.i, low.i, high.i);
  };
  high = record { k = omega (arith, ints, clamps, p.high.k); j = omega (arith, ints, clamps, p.high.j); i = omega (arith, ints, clamps, p.high.i) };
}

pub and_not : (s t : Bool) → t ≡ true → false ≡ (s && not t)
and_not true true e = refl
and_not false true e = refl
and_not s false e = absurd (false≢true e)

pub no_members : {X : Type 0} (xs : List X) → ((x : X) → Member x xs → ⊥) → xs ≡ []
no_members [] none = refl
no_members (x ∷ xs) none = absurd (none x (inl refl))

-- an item that is there does not depend on what stands for one that is not
pub same_item : {X : Type 0} (xs : List X) (i : ℕ) (d e : X) → i < length xs → get_or xs i d ≡ get_or xs i e
same_item xs i d e more = some_same (sym (slice_get-get_or xs i d more) ∙ slice_get-get_or xs i e more)
  where
    some_same : {X : Type 0} {x y : X} → Some x ≡ Some y → x ≡ y
    some_same e = cc
