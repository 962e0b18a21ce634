-- Boxes that are each right at their place are a level.
use Rattle.std.proofs.Common.{◌≡◌, ℕ, suc, ◌-◌, ◌<◌, refl, sym, ap, ◌∙◌, subst, inl, inr, arith}
use Rattle.std.proofs.lemmas.Bool.{false≢true, eqb-true, and_parts, not-true, ltb-true, cases_lt}
use Rattle.std.proofs.lemmas.List.{nil_from_length}
use Rattle.std.proofs.lemmas.Int.{ints}
use Rattle.std.proofs.lemmas.Bool.Decides.{Decides-int_eq}
use Rattle.std.proofs.Math.Dec.{eqb-suc-zero}
use Rattle.std.specs.Prelude.{Bool, true, false, cond, not, ◌&&◌, List, [], ◌∷◌, length, Option, Some, None, slice_get, nat_lt, if◌then◌else◌, ℤ, pos, ◌+ℤ◌, ◌-ℤ◌, ◌*ℤ◌, ◌≤ℤ◌, ◌<ℤ◌}
use Rattle.std.specs.Int.{int_rem_euclid}
use Rattle.std.specs.Ordering.{int_eq}
use Rattle.std.specs.Cmp.{IsTotalOrder}
use Rattle.std.specs.List.Sorted.{IsStrictlySortedBy}
use Rattle.std.specs.declared.cmp.Ordering.{Ordering}
use Rattle.std.specs.declared.cmp.Ordering.TheVariants.{Less}
use Rattle.samr_box.specs.declared.vector.IVec.{IVec}
use Rattle.samr_box.specs.Vector.{IsRatio, alike, plus, times}
use Rattle.samr_box.specs.Corners.{Corners, IsBox, Holds, Meet, meets}
use Rattle.samr_box.specs.Ratios.{floor, coarse, last_child, refined, coarsened}
use Rattle.samr_box.specs.Space.{is_zero}
use Rattle.samr_box.specs.Lists.{Member}
use Rattle.samr_box.proofs.Ascending.{sorted-nil, sorted-cons, sorted-head}
use Rattle.samr_box.proofs.CellSets.{meets-from}
use Rattle.samr_box.proofs.Floors.{floor-mul, floor-last}
use Rattle.samr_box.proofs.Products.{mul-minus, mul_one}
use Rattle.samr_box.proofs.Wraps.{IsRemainder-rem}
use Rattle.samr_boxlist.specs.Covers.{cover, held}
use Rattle.samr_boxlist.specs.Slabs.{all_subtracted}
use Rattle.samr_boxlist.proofs.Covering.{held-cover}
use Rattle.samr_level.specs.Refs.{Owned}
use Rattle.samr_level.specs.RefOrders.{ref_cmp}
use Rattle.samr_level.specs.Regions.{Area, IsArea, boxes_of}
use Rattle.samr_level.specs.Levels.{IsLevel}
use Rattle.samr_level.proofs.Domains.{held-from, member-held}
use Rattle.samr_level.proofs.Level0Laws.{boxes-facts}
use Rattle.samr_level.proofs.RefLaws.{ref_total}
use Rattle.samr_nest.proofs.NearParts.{AllFull}
use Rattle.samr_nest.proofs.Subtracting.{cover-all_subtracted}
use Rattle.samr_verify.specs.declared.ground.Ground.{Ground}
use Rattle.samr_verify.specs.MeshFaults.{covered, comes_after, ascends, meets_earlier, is_made, rest_in_cell, starts_cell, ends_cell, is_refinement, is_right}
use Rattle.samr_verify.proofs.NoFaults.{none_some, some_same, less_is, any_false, place_of}

-- what is covered lies in the boxes
pub covered_is : (x : IVec) (boxes : List Corners) (b : Corners) → AllFull boxes → covered boxes b ≡ true → Holds b x → held x boxes ≡ true
covered_is x boxes b full t h =
    let none : all_subtracted (b ∷ []) boxes ≡ [] = nil_from_length (all_subtracted (b ∷ []) boxes) (eqb-true (length (all_subtracted (b ∷ []) boxes)) 0 t) in
    let some = held-cover x (b ∷ []) (held-from x b (b ∷ []) (inl refl) h) in
    let e : 0 ≡ cond (held x boxes) 0 (cover x (b ∷ [])) = ap (cover x) (sym none) ∙ cover-all_subtracted x boxes (b ∷ []) full in
    by_test (held x boxes) (cover x (b ∷ [])) some e
  where
    by_test : (v : Bool) (n : ℕ) → 0 < n → 0 ≡ cond v 0 n → v ≡ true
    by_test true n some e = refl
    by_test false n some e = absurd (omega (arith, some, e))

-- what the tests of a box say
pub record IsRight (g : Ground) (boxes : List Owned) (i : ℕ) (b : Owned) : Type 0 where
  pub inside : covered g.domain b.bx ≡ true
  pub owner : nat_lt b.owner g.ranks ≡ true
  pub after : ascends boxes i b ≡ true
  pub apart : meets_earlier boxes i b ≡ false
  pub made : is_made g i b ≡ true

pub right_is : (g : Ground) (boxes : List Owned) (i : ℕ) (b : Owned) → is_right g boxes i b ≡ true → IsRight g boxes i b
right_is g boxes i b t =
    let first = and_parts (covered g.domain b.bx) (nat_lt b.owner g.ranks && (ascends boxes i b && (not (meets_earlier boxes i b) && is_made g i b))) t in
    let second = and_parts (nat_lt b.owner g.ranks) (ascends boxes i b && (not (meets_earlier boxes i b) && is_made g i b)) first.1 in
    let third = and_parts (ascends boxes i b) (not (meets_earlier boxes i b) && is_made g i b) second.1 in
    let fourth = and_parts (not (meets_earlier boxes i b)) (is_made g i b) third.1 in
    record { inside = first.0; owner = second.0; after = third.0; apart = not-true (meets_earlier boxes i b) fourth.0; made = fourth.1 }

-- neighbours that ascend
sorted_from : {X : Type 0} (R : X → X → Ordering) → IsTotalOrder R → (xs : List X)
    → ((i : ℕ) (a b : X) → slice_get xs i ≡ Some a → slice_get xs (suc i) ≡ Some b → R a b ≡ Less) → IsStrictlySortedBy R xs
sorted_from R o [] f = sorted-nil R
sorted_from R o (x ∷ []) f = sorted-cons R x [] (λ z m. absurd m) (sorted-nil R)
sorted_from {X} R o (x ∷ y ∷ ys) f =
    let rest = sorted_from R o (y ∷ ys) (λ i a b h k. f (suc i) a b h k) in
    let first : R x y ≡ Less = f 0 x y refl refl in
    sorted-cons R x (y ∷ ys) (λ z m. past x y ys z first rest m) rest
  where
    past : (x y : X) (ys : List X) (z : X) → R x y ≡ Less → IsStrictlySortedBy R (y ∷ ys) → Member z (y ∷ ys) → R x z ≡ Less
    past x y ys z first rest (inl e) = subst (λ v. R x v ≡ Less) (sym e) first
    past x y ys z first rest (inr m) = o.trans x y z first (sorted-head R y ys rest z m)

later : (boxes : List Owned) (i : ℕ) (b : Owned) → ascends boxes (suc i) b ≡ comes_after (slice_get boxes i) b
later boxes i b =
    let e : suc i - 1 ≡ i = omega arith in
    ap (λ (t : Bool). if t then true else comes_after (slice_get boxes (suc i - 1)) b) (eqb-suc-zero i)
    ∙ ap (λ (n : ℕ). comes_after (slice_get boxes n) b) e

after_is : (o : Option Owned) (a b : Owned) → o ≡ Some a → comes_after o b ≡ true → ref_cmp a b ≡ Less
after_is None a b e t = absurd (none_some e)
after_is (Some c) a b e t = subst (λ v. ref_cmp v b ≡ Less) (some_same e) (less_is (ref_cmp c b) t)

module _ (area : Area) (g : Ground) (boxes : List Owned) (is : IsArea area) (domain : g.domain ≡ boxes_of area) (whole : (b : Owned) → Member b boxes → IsBox b.bx) (right : (i : ℕ) (b : Owned) → slice_get boxes i ≡ Some b → IsRight g boxes i b) where
  full : AllFull (boxes_of area)
  full p m = (boxes-facts area is p m).0.order

  earlier_apart : (i j : ℕ) (a b : Owned) → i < j → slice_get boxes i ≡ Some a → slice_get boxes j ≡ Some b → meets a.bx b.bx ≡ false
  earlier_apart i j a b less h k = any_false (λ (c : Owned). meets c.bx b.bx) boxes j i a (right j b k).apart less h

  turned_meet : (a b : Corners) → Meet a b → Meet b a
  turned_meet a b m = record { low = m.high; high = m.low }

  one_box : (i j : ℕ) (a b : Owned) → slice_get boxes i ≡ Some a → slice_get boxes j ≡ Some b → Meet a.bx b.bx → a ≡ b
  one_box i j a b h k m =
      elim (cases_lt i j) [
        | inl less ↦ absurd (false≢true (sym (earlier_apart i j a b less h k) ∙ meets-from m))
        | inr more ↦ elim (cases_lt j i) [
          | inl less ↦ absurd (false≢true (sym (earlier_apart j i b a less k h) ∙ meets-from (turned_meet a.bx b.bx m)))
          | inr less ↦ let e : i ≡ j = omega (arith, more, less) in some_same (sym h ∙ ap (λ n. slice_get boxes n) e ∙ k)
        ]
      ]

  pub boxes_are_level : IsLevel area g.ranks boxes
  boxes_are_level = record {
    in_order = sorted_from ref_cmp ref_total boxes (λ i a b h k. after_is (slice_get boxes i) a b h (sym (later boxes i b) ∙ (right (suc i) b k).after));
    not_empty = λ b m. (whole b m).order;
    inside = λ b x m h.
        let at = place_of b boxes m in
        member-held x (boxes_of area) (covered_is x (boxes_of area) b.bx full (subst (λ d. covered d b.bx ≡ true) domain (right at.0 b at.1).inside) h);
    disjoint = λ a b m n meet. let i = place_of a boxes m in let j = place_of b boxes n in one_box i.0 j.0 a b i.1 j.1 meet;
    owners = λ b m. let at = place_of b boxes m in ltb-true b.owner g.ranks (right at.0 b at.1).owner;
  }

-- refinements, on one axis
first_on : (x n : ℤ) → pos 1 ≤ℤ n → int_eq (int_rem_euclid x n) (pos 0) ≡ true → (floor x n *ℤ n) ≡ x
first_on x n some t =
    let p : pos 0 <ℤ n = omega (arith, ints, some) in
    let r = IsRemainder-rem n x p in
    let zero_is : int_rem_euclid x n ≡ pos 0 = (Decides-int_eq (int_rem_euclid x n) (pos 0)).0 t in
    let apart : (int_rem_euclid x n +ℤ (r.lengths *ℤ n)) ≡ x = r.apart in
    let e : (r.lengths *ℤ n) ≡ x = omega (arith, ints, zero_is, apart) in
    ap (λ (v : ℤ). floor v n *ℤ n) (sym e) ∙ ap (λ (v : ℤ). v *ℤ n) (floor-mul n r.lengths p) ∙ e

one_times : (n : ℤ) → (pos 1 *ℤ n) ≡ n
one_times n = mul_one n

last_on : (x n : ℤ) → pos 1 ≤ℤ n → int_eq (int_rem_euclid (x +ℤ pos 1) n) (pos 0) ≡ true → ((floor x n *ℤ n) +ℤ (n -ℤ pos 1)) ≡ x
last_on x n some t =
    let p : pos 0 <ℤ n = omega (arith, ints, some) in
    let r = IsRemainder-rem n (x +ℤ pos 1) p in
    let zero_is : int_rem_euclid (x +ℤ pos 1) n ≡ pos 0 = (Decides-int_eq (int_rem_euclid (x +ℤ pos 1) n) (pos 0)).0 t in
    let apart : (int_rem_euclid (x +ℤ pos 1) n +ℤ (r.lengths *ℤ n)) ≡ (x +ℤ pos 1) = r.apart in
    let q : ℤ = r.lengths -ℤ pos 1 in
    let whole : (r.lengths *ℤ n) ≡ (x +ℤ pos 1) = omega (arith, ints, zero_is, apart) in
    let less : (q *ℤ n) ≡ ((r.lengths *ℤ n) -ℤ (pos 1 *ℤ n)) = mul-minus r.lengths (pos 1) n in
    let one : (pos 1 *ℤ n) ≡ n = one_times n in
    let e : ((q *ℤ n) +ℤ (n -ℤ pos 1)) ≡ x = omega (arith, ints, whole, less, one) in
    ap (λ (v : ℤ). (floor v n *ℤ n) +ℤ (n -ℤ pos 1)) (sym e) ∙ ap (λ (v : ℤ). (v *ℤ n) +ℤ (n -ℤ pos 1)) (floor-last n q p) ∙ e

record AreZero (v : IVec) : Type 0 where
  k : int_eq v.k (pos 0) ≡ true
  j : int_eq v.j (pos 0) ≡ true
  i : int_eq v.i (pos 0) ≡ true

all_zero : (v : IVec) → is_zero v ≡ true → AreZero v
all_zero v t =
    let first = and_parts (int_eq v.k (pos 0)) (int_eq v.j (pos 0) && int_eq v.i (pos 0)) t in
    let second = and_parts (int_eq v.j (pos 0)) (int_eq v.i (pos 0)) first.1 in
    record { k = first.0; j = second.0; i = second.1 }

same_vec : (a b : IVec) → a.k ≡ b.k → a.j ≡ b.j → a.i ≡ b.i → a ≡ b
same_vec a b e f g =
    let vec : ℤ → ℤ → ℤ → IVec = λ k j i. record { k = k; j = j; i = i } in
    ap (λ (k : ℤ). vec k a.j a.i) e ∙ ap (λ (j : ℤ). vec b.k j a.i) f ∙ ap (λ (i : ℤ). vec b.k b.j i) g

pub refinement_is : (r : IVec) (b : Corners) → IsRatio r → is_refinement r b ≡ true → b ≡ refined (coarsened b r) r
refinement_is r b is t =
    let parts = and_parts (starts_cell r b.lo) (ends_cell r b.hi) t in
    let low = all_zero (rest_in_cell b.lo r) parts.0 in
    let high = all_zero (rest_in_cell (plus b.hi (alike (pos 1))) r) parts.1 in
    let lo : b.lo ≡ times (coarse b.lo r) r =
    same_vec b.lo (times (coarse b.lo r) r) (sym (first_on b.lo.k r.k is.low.k low.k)) (sym (first_on b.lo.j r.j is.low.j low.j)) (sym (first_on b.lo.i r.i is.low.i low.i)) in
    let hi : b.hi ≡ last_child (coarse b.hi r) r =
    same_vec b.hi (last_child (coarse b.hi r) r) (sym (last_on b.hi.k r.k is.low.k high.k)) (sym (last_on b.hi.j r.j is.low.j high.j)) (sym (last_on b.hi.i r.i is.low.i high.i)) in
    let box : IVec → IVec → Corners = λ l h. record { lo = l; hi = h } in
    ap (λ (l : IVec). box l b.hi) lo ∙ ap (λ (h : IVec). box (times (coarse b.lo r) r) h) hi
