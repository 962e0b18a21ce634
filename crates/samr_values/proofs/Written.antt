-- Values written into a patch, region after region.
use Rattle.std.proofs.Common.{◌≡◌, ℕ, zero, suc, ◌<◌, length, get_or, inl, inr, refl, sym, ap, ◌∙◌, subst, arith}
use Rattle.std.proofs.lemmas.Int.{ints}
use Rattle.std.proofs.lemmas.Bool.{cond-false, and_parts, and_from, false≢true}
use Rattle.std.specs.Prelude.{Bool, true, false, not, nat_eq, cond, ◌||◌, ◌&&◌, IsTrue, List, [], ◌∷◌}
use Rattle.samr_box.specs.declared.vector.IVec.{IVec}
use Rattle.samr_box.specs.Vector.{at_most}
use Rattle.samr_box.specs.Corners.{Corners, Holds, holds, holds_box}
use Rattle.samr_box.specs.Lists.{Member}
use Rattle.samr_box.proofs.CellSets.{Holds-test, AtMost-test, at_most-from}
use Rattle.samr_box.proofs.Vectors.{AtMost-antisymm}
use Rattle.samr_box.proofs.Totals.{same_corners}
use Rattle.samr_data.specs.Values.{value_in}
use Rattle.samr_data.specs.Grids.{Grid, IsGrid, over, value_at, written, copied}
use Rattle.samr_data.proofs.Lists.{listed_same, value_in-listed}
use Rattle.samr_data.proofs.Patches.{is_its_values, with_values}
use Rattle.samr_values.specs.Patches.{poured}
use Rattle.samr_data.specs.declared.parcel.Parcel.{Parcel}
use Rattle.samr_values.specs.Parcels.{IsParcel, same_box, is_for, has_fine}

-- two functions that agree on the cells of a patch make the same patch
pub written_same : (p : Grid) (f g : IVec → ℕ) → IsGrid p → ((x : IVec) → Holds (over p) x → f x ≡ g x) → written p f ≡ written p g
written_same p f g is same = ap (with_values p) (listed_same (over p) f g is.whole.order same)

-- no value is written where the test holds nowhere
pub poured_none : (p : Grid) (t : IVec → Bool) (v : IVec → ℕ) → IsGrid p → ((x : IVec) → t x ≡ false) → p ≡ poured p t v
poured_none p t v is none =
    is_its_values p (λ x. cond (t x) (v x) (value_at p x)) is (λ x h. sym (cond-false (t x) (v x) (value_at p x) (none x)))

-- one region
pub poured_region : (p : Grid) (region : Corners) (f v : IVec → ℕ) (t : IVec → Bool) → IsGrid p → ((x : IVec) → holds region x ≡ t x)
    → ((x : IVec) → t x ≡ true → f x ≡ v x) → written p (copied p region f) ≡ poured p t v
poured_region p region f v t is tests same =
    written_same p (copied p region f) (λ x. cond (t x) (v x) (value_at p x)) is
    (λ x h. ap (λ (b : Bool). cond b (f x) (value_at p x)) (tests x) ∙ by x (t x) refl)
  where
    by : (x : IVec) (b : Bool) → t x ≡ b → cond b (f x) (value_at p x) ≡ cond b (v x) (value_at p x)
    by x true e = same x e
    by x false e = refl

either : (d t : Bool) (a b : ℕ) → cond t a (cond d a b) ≡ cond (d || t) a b
either true true a b = refl
either true false a b = refl
either false true a b = refl
either false false a b = refl

-- and one more
pub poured_more : (old was now : Grid) (d t both : IVec → Bool) (v : IVec → ℕ) → IsGrid old → was ≡ poured old d v → now ≡ poured was t v
    → ((x : IVec) → (d x || t x) ≡ both x) → now ≡ poured old both v
poured_more old was now d t both v is before step tests =
    step ∙ ap (λ (p : Grid). poured p t v) before
    ∙ written_same old (λ x. cond (t x) (v x) (value_at (poured old d v) x)) (λ x. cond (both x) (v x) (value_at old x)) is
    (λ x h.
    ap (λ (n : ℕ). cond (t x) (v x) n) (value_in-listed (over old) (λ y. cond (d y) (v y) (value_at old y)) x h)
    ∙ either (d x) (t x) (v x) (value_at old x)
    ∙ ap (λ (b : Bool). cond b (v x) (value_at old x)) (tests x))

-- boxes that hold each other are the same
pub same_box_is : (a b : Corners) → same_box a b ≡ true → a ≡ b
same_box_is a b t =
    let both = and_parts (holds_box a b) (holds_box b a) t in
    let p = and_parts (at_most a.lo b.lo) (at_most b.hi a.hi) both.0 in
    let q = and_parts (at_most b.lo a.lo) (at_most a.hi b.hi) both.1 in
    same_corners
    (AtMost-antisymm (AtMost-test {a = a.lo} {b = b.lo} p.0) (AtMost-test {a = b.lo} {b = a.lo} q.0))
    (AtMost-antisymm (AtMost-test {a = a.hi} {b = b.hi} q.1) (AtMost-test {a = b.hi} {b = a.hi} p.1))

pub for_is : (field : ℕ) (b : Corners) (q : Parcel) → is_for field b q ≡ true → q.edge.head.bx ≡ b
for_is field b q t = same_box_is q.edge.head.bx b (and_parts (nat_eq q.field field) (same_box q.edge.head.bx b) t).1

pub not_true : (b : Bool) → not b ≡ true → b ≡ false
not_true true t = absurd (false≢true t)
not_true false t = refl

-- a box that lies in the box of a patch lies in the patch
pub inside_over : (p : Grid) (region : Corners) → IsGrid p → holds_box p.bx region ≡ true → holds_box (over p) region ≡ true
inside_over p region is t =
    let both = and_parts (at_most p.bx.lo region.lo) (at_most region.hi p.bx.hi) t in
    let low = AtMost-test {a = p.bx.lo} {b = region.lo} both.0 in
    let high = AtMost-test {a = region.hi} {b = p.bx.hi} both.1 in
    let wide = is.positive in
    and_from (at_most (over p).lo region.lo) (at_most region.hi (over p).hi)
    (at_most-from {a = (over p).lo} {b = region.lo} (record { k = omega (arith, ints, low.k, wide.k); j = omega (arith, ints, low.j, wide.j); i = omega (arith, ints, low.i, wide.i) }))
    (at_most-from {a = region.hi} {b = (over p).hi} (record { k = omega (arith, ints, high.k, wide.k); j = omega (arith, ints, high.j, wide.j); i = omega (arith, ints, high.i, wide.i) }))

-- a parcel with values of cells of the box
module _ (p : Grid) (b : Corners) (field : ℕ) (q : Parcel) (is : IsGrid p) (e : b ≡ p.bx) where
  pub fine_inside : has_fine field b q ≡ true → IsParcel q → IsTrue (holds_box (over p) q.region)
  fine_inside t h =
      let both = and_parts (not q.is_coarse) (is_for field b q) t in
      let head = for_is field b q both.1 ∙ e in
      inside_over p q.region is (subst (λ (c : Corners). holds_box c q.region ≡ true) head (h.inside (not_true q.is_coarse both.0)))

  pub fine_poured : (v : IVec → ℕ) (values : List ℕ) → values ≡ q.values → has_fine field b q ≡ true
      → ((x : IVec) → has_fine field p.bx q ≡ true → Holds q.region x → value_in q.region q.values x ≡ v x)
      → written p (copied p q.region (value_in q.region values)) ≡ poured p (λ x. has_fine field p.bx q && holds q.region x) v
  fine_poured v values same t agree =
      let here : has_fine field p.bx q ≡ true = subst (λ (c : Corners). has_fine field c q ≡ true) e t in
      ap (λ (l : List ℕ). written p (copied p q.region (value_in q.region l))) same
      ∙ poured_region p q.region (value_in q.region q.values) v (λ x. has_fine field p.bx q && holds q.region x) is
      (λ x. ap (λ (c : Bool). c && holds q.region x) (sym here))
      (λ x s. agree x here (Holds-test (and_parts (has_fine field p.bx q) (holds q.region x) s).1))

  pub nothing_poured : (v : IVec → ℕ) → has_fine field b q ≡ false → p ≡ poured p (λ x. has_fine field p.bx q && holds q.region x) v
  nothing_poured v f =
      poured_none p (λ x. has_fine field p.bx q && holds q.region x) v is
      (λ x. ap (λ (c : Corners). has_fine field c q && holds q.region x) (sym e) ∙ ap (λ (c : Bool). c && holds q.region x) f)

-- the item of a loop is one of the list
pub item_member : {X : Type 0} (xs : List X) (i : ℕ) (d x : X) → i < length xs → x ≡ get_or xs i d → Member x xs
item_member [] i d x below e = absurd (omega (arith, below))
item_member (y ∷ ys) zero d x below e = inl e
item_member (y ∷ ys) (suc i) d x below e = inr (item_member ys i d x (omega (arith, below)) e)
