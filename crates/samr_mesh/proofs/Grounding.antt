-- The domains of the levels of an accepted problem.
use Rattle.std.proofs.Common.{◌≡◌, ℕ, zero, suc, ◌*◌, ◌<◌, ◌≤◌, ◌^◌, Bool, true, false, cond, fold, ◌==◌, List, [], ◌∷◌, length, get_or, refl, sym, ap, subst, ◌∙◌, inl, inr, arith, nat_lt}
use Rattle.std.proofs.lemmas.Bool.{and_parts, or_cases, false≢true, eqb-true}
use Rattle.std.proofs.lemmas.Bool.Decides.{Decides-int_eq, nat_tests}
use Rattle.std.proofs.lemmas.Int.{ints, clamps}
use Rattle.std.proofs.Math.Nat.{mul-le-mul, mul-le-mul_left}
use Rattle.std.specs.Prelude.{ℤ, pos, negsuc, ◌+ℤ◌, ◌-ℤ◌, ◌*ℤ◌, ◌≤ℤ◌, unsigned_abs, ◌||◌, map, ◌⊎◌}
use Rattle.std.specs.Ordering.{int_eq}
use Rattle.samr_box.specs.declared.vector.Axis.{Axis}
use Rattle.samr_box.specs.declared.vector.Axis.TheVariants.{I, J, K}
use Rattle.samr_box.specs.declared.vector.IVec.{IVec}
use Rattle.samr_box.specs.Vector.{alike, times, greatest, AtMost, Between, IsRatio}
use Rattle.samr_box.specs.Corners.{Corners, IsBox, cells_of}
use Rattle.samr_box.specs.Ratios.{refined}
use Rattle.samr_box.specs.Space.{Space, IsSpace, whole, flag}
use Rattle.samr_box.specs.Lists.{Member}
use Rattle.samr_box.proofs.Vectors.{same_cell, AtMost-trans}
use Rattle.samr_box.proofs.Products.{mul_le, mul_comm, mul_assoc, mul_one}
use Rattle.samr_box.proofs.Ranges.{IsBox-whole}
use Rattle.samr_level.specs.Blocks.{blocks_of}
use Rattle.samr_level.proofs.FinerAreas.{IsArea-finer}
use Rattle.samr_nest.specs.Nested.{IsPlain}
use Rattle.samr_problem.specs.declared.lengths.Lengths.{Lengths}
use Rattle.samr_problem.specs.Faults.{is_large}
use Rattle.samr_problem.specs.Fields.{Fields, width_of, widest}
use Rattle.samr_problem.specs.Lengths as lengths
use Rattle.samr_problem.specs.Lengths.{sizes, lengths_of, cells_in}
use Rattle.samr_problem.specs.Problems.{IsProblem, SuitsParts}
use Rattle.samr_problem.specs.Values.{axes_within, is_within}
use Rattle.samr_mesh.specs.Domains.{area_of, step_of, ratio_to, area_at, frame_at, tile_of, roots_at}
use Rattle.samr_mesh.specs.Grounds.{HasDomain, CanPass, HasLevel0}
use Rattle.samr_rounds.specs.Roots.{AreRoots}
use Rattle.samr_mesh.proofs.Regions.{le_true, members_pass, has_level0}
use Rattle.samr_rounds.proofs.Rooting.{blocks_are_roots, alone_is_root}

pub within_of : (low high z : ℤ) → is_within low high z ≡ true → (low ≤ℤ z) × (z ≤ℤ high)
unfolding is_within
within_of low high z h = let p = and_parts _ _ h in (le_true low z p.0, le_true z high p.1)

-- a third axis that is not real has a number from `least` on, and `least` is no more than the low end
third_of : (dim : ℕ) (least low high z : ℤ) → least ≤ℤ low → (dim == 2 || is_within low high z) ≡ true → (dim ≡ 2 → (least ≤ℤ z) × (z ≤ℤ high)) → (least ≤ℤ z) × (z ≤ℤ high)
third_of dim least low high z less h flat =
    elim (or_cases (dim == 2) (is_within low high z) h) [
      | inl two ↦ flat (eqb-true dim 2 two)
      | inr some ↦ let w = within_of low high z some in (omega (arith, ints, less, w.0), w.1)
    ]

pub axes_of : (dim : ℕ) (least low high : ℤ) (v : IVec) → least ≤ℤ low → axes_within dim low high v ≡ true → (dim ≡ 2 → (least ≤ℤ v.k) × (v.k ≤ℤ high))
    → Between (alike least) v (alike high)
unfolding axes_within
axes_of dim least low high v less h flat =
    let i = and_parts (is_within low high v.i) _ h in
    let j = and_parts (is_within low high v.j) _ i.1 in
    let on_i = within_of low high v.i i.0 in
    let on_j = within_of low high v.j j.0 in
    let on_k = third_of dim least low high v.k less j.1 flat in
    record {
      low = record { k = on_k.0; j = omega (arith, ints, less, on_j.0); i = omega (arith, ints, less, on_i.0) };
      high = record { k = on_k.1; j = on_j.1; i = on_i.1 };
    }

-- a ratio between levels: 1 to 4
abbrev pub IsStep : IVec → Type 0
IsStep r = Between (alike (pos 1)) r (alike (pos 4))

one_step : IsStep (alike (pos 1))
one_step = record { low = record { k = omega arith; j = omega arith; i = omega arith }; high = record { k = omega (arith, ints); j = omega (arith, ints); i = omega (arith, ints) } }

each_of : {X : Type 0} (P : X → Type 0) (xs : List X) (d : X) → ((x : X) → Member x xs → P x) → P d → (n : ℕ) → P (get_or xs n d)
each_of P [] d each last n = last
each_of P (x ∷ xs) d each last zero = each x (inl refl)
each_of P (x ∷ xs) d each last (suc n) = each_of P xs d (λ y m. each y (inr m)) last n

pub step_ratio : (r : IVec) → IsStep r → IsRatio r
step_ratio r h = record { low = h.low; high = record { k = omega (arith, ints, h.high.k); j = omega (arith, ints, h.high.j); i = omega (arith, ints, h.high.i) } }

-- products of ratios
product_on : (a b m : ℤ) → pos 1 ≤ℤ a → a ≤ℤ m → pos 1 ≤ℤ b → b ≤ℤ pos 4 → (pos 1 ≤ℤ (a *ℤ b)) × ((a *ℤ b) ≤ℤ (m *ℤ pos 4))
product_on a b m p q r s =
    let low = mul_le b (pos 1) a (omega (arith, ints, r)) p in
    let e = mul_one b in
    let high = mul_le b a m (omega (arith, ints, r)) q in
    let more = mul_le m b (pos 4) (omega (arith, ints, p, q)) s in
    let c = mul_comm m b in
    let d = mul_comm m (pos 4) in
    (omega (arith, ints, low, e, r), omega (arith, ints, high, more, c, d))

product_of : (a b : IVec) (m : ℤ) → Between (alike (pos 1)) a (alike m) → IsStep b → Between (alike (pos 1)) (times a b) (alike (m *ℤ pos 4))
product_of a b m p q =
    let k = product_on a.k b.k m p.low.k p.high.k q.low.k q.high.k in
    let j = product_on a.j b.j m p.low.j p.high.j q.low.j q.high.j in
    let i = product_on a.i b.i m p.low.i p.high.i q.low.i q.high.i in
    record { low = record { k = k.0; j = j.0; i = i.0 }; high = record { k = k.1; j = j.1; i = i.1 } }

up_to : (m : ℤ) (r : IVec) → m ≤ℤ pos 256 → Between (alike (pos 1)) r (alike m) → IsRatio r
up_to m r h b = record { low = b.low; high = record { k = omega (arith, ints, h, b.high.k); j = omega (arith, ints, h, b.high.j); i = omega (arith, ints, h, b.high.i) } }

-- lengths grow with each ratio
pub abs_times : (a b : ℤ) → unsigned_abs (a *ℤ b) ≡ unsigned_abs a * unsigned_abs b
abs_times (pos a) (pos b) = omega (arith, ints)
abs_times (pos a) (negsuc b) = omega (arith, ints)
abs_times (negsuc a) (pos b) = omega (arith, ints)
abs_times (negsuc a) (negsuc b) = omega (arith, ints)

abs_some : (r : ℤ) → pos 1 ≤ℤ r → 1 ≤ unsigned_abs r
abs_some r h = omega (arith, ints, h)

longer : (n m : ℕ) → 1 ≤ m → n ≤ n * m
longer n m h = let e = mul-le-mul_left n h in omega (arith, e)

grows : (l : Lengths) (r : IVec) → AtMost (alike (pos 1)) r → cells_in l ≤ cells_in (lengths.refined l r)
grows l r h =
    mul-le-mul
    (mul-le-mul (longer l.i (unsigned_abs r.i) (abs_some r.i h.i)) (longer l.j (unsigned_abs r.j) (abs_some r.j h.j)))
    (longer l.k (unsigned_abs r.k) (abs_some r.k h.k))

all_grow : (rs : List IVec) (l : Lengths) → ((r : IVec) → Member r rs → AtMost (alike (pos 1)) r) → cells_in l ≤ cells_in (fold lengths.refined l rs)
all_grow [] l some = omega arith
all_grow (r ∷ rs) l some =
    let here = grows l r (some r (inl refl)) in
    let rest = all_grow rs (lengths.refined l r) (λ s m. some s (inr m)) in
    omega (arith, here, rest)

-- the product of the first ratios
abbrev product : IVec → ℕ → List IVec → IVec
product acc zero rs = acc
product acc (suc l) [] = acc
product acc (suc l) (r ∷ rs) = product (times acc r) l rs

product_more : (rs : List IVec) (acc : IVec) (l : ℕ) → l < length rs → product acc (suc l) rs ≡ times (product acc l rs) (get_or rs l (alike (pos 1)))
product_more [] acc l h = absurd (omega (arith, h))
product_more (r ∷ rs) acc zero h = refl
product_more (r ∷ rs) acc (suc l) h = product_more rs (times acc r) l (omega (arith, h))

ratio_is : (p : Fields) (l : ℕ) → l ≤ length p.ratio → ratio_to p l ≡ product (alike (pos 1)) l p.ratio
ratio_is p zero h = refl
ratio_is p (suc l) h =
    ap (λ (v : IVec). times v (step_of p l)) (ratio_is p l (omega (arith, h))) ∙ sym (product_more p.ratio (alike (pos 1)) l (omega (arith, h)))

sizes_refined : (d acc r : IVec) → sizes (times d (times acc r)) ≡ lengths.refined (sizes (times d acc)) r
sizes_refined d acc r =
    let on : (a b c : ℤ) → unsigned_abs (a *ℤ (b *ℤ c)) ≡ unsigned_abs (a *ℤ b) * unsigned_abs c = λ a b c. ap unsigned_abs (sym (mul_assoc a b c)) ∙ abs_times (a *ℤ b) c in
    let i = on d.i acc.i r.i in
    let j = on d.j acc.j r.j in
    let k = on d.k acc.k r.k in
    same_lengths i j k
  where
    same_lengths : {x y z u v w : ℕ} → x ≡ u → y ≡ v → z ≡ w → (let a : Lengths = record { i = x; j = y; k = z } in a) ≡ (let b : Lengths = record { i = u; j = v; k = w } in b)
    same_lengths {x} {y} {z} {u} {v} {w} e f g =
        ap (λ (n : ℕ). let a : Lengths = record { i = n; j = y; k = z } in a) e
        ∙ ap (λ (n : ℕ). let a : Lengths = record { i = u; j = n; k = z } in a) f
        ∙ ap (λ (n : ℕ). let a : Lengths = record { i = u; j = v; k = n } in a) g

within_finest : (rs : List IVec) (d acc : IVec) (l : ℕ) → ((r : IVec) → Member r rs → AtMost (alike (pos 1)) r) → l ≤ length rs
    → cells_in (sizes (times d (product acc l rs))) ≤ cells_in (fold lengths.refined (sizes (times d acc)) rs)
within_finest rs d acc zero some h = all_grow rs (sizes (times d acc)) some
within_finest [] d acc (suc l) some h = absurd (omega (arith, h))
within_finest (r ∷ rs) d acc (suc l) some h =
    let rest = within_finest rs d (times acc r) l (λ s m. some s (inr m)) (omega (arith, h)) in
    let e = ap (λ (v : Lengths). cells_in (fold lengths.refined v rs)) (sizes_refined d acc r) in
    omega (arith, rest, e)

-- of three lengths with few cells each is small
one_small : (a b c n : ℕ) → 1 ≤ a → 1 ≤ b → 1 ≤ c → a * b * c ≤ n → (a ≤ n) × (b ≤ n) × (c ≤ n)
one_small a b c n p q r h =
    let ab = longer a b q in
    let ba = longer b a p in
    let comm : b * a ≡ a * b = omega arith in
    let abc = longer (a * b) c r in
    let some : 1 ≤ a * b = omega (arith, ab, p) in
    let cab = longer c (a * b) some in
    let comm2 : c * (a * b) ≡ a * b * c = omega arith in
    (omega (arith, ab, abc, h), omega (arith, ba, comm, abc, h), omega (arith, cab, comm2, h))

whole_cells : (d : Space) → cells_of (whole d) ≡ unsigned_abs d.size.i * unsigned_abs d.size.j * unsigned_abs d.size.k
whole_cells d =
    let on : (n : ℤ) → unsigned_abs (((n -ℤ pos 1) -ℤ pos 0) +ℤ pos 1) ≡ unsigned_abs n =
    λ n. let e : ((n -ℤ pos 1) -ℤ pos 0) +ℤ pos 1 ≡ n = omega (arith, ints) in ap unsigned_abs e in
    rw (on d.size.i, on d.size.j, on d.size.k) refl

pub greatest_left : (a b : IVec) → AtMost a (greatest a b)
greatest_left a b = record { k = omega (arith, ints, clamps); j = omega (arith, ints, clamps); i = omega (arith, ints, clamps) }

pub greatest_right : (a b : IVec) → AtMost b (greatest a b)
greatest_right a b = record { k = omega (arith, ints, clamps); j = omega (arith, ints, clamps); i = omega (arith, ints, clamps) }

pub int_is : (x y : ℤ) → int_eq x y ≡ true → x ≡ y
int_is x y t = (Decides-int_eq x y).0 t

width_covers : (levels : ℕ) (nest buffer : IVec) (p : Fields) → levels ≡ 1 ⊎ (AtMost nest (width_of levels nest buffer p.fields) × AtMost buffer (width_of levels nest buffer p.fields))
unfolding width_of
width_covers levels nest buffer p = by (levels == 1) refl
  where
    by : (t : Bool) → (levels == 1) ≡ t
        → levels ≡ 1 ⊎ (AtMost nest (cond t (widest p.fields) (greatest (widest p.fields) (greatest nest buffer))) × AtMost buffer (cond t (widest p.fields) (greatest (widest p.fields) (greatest nest buffer))))
    by true e = inl (eqb-true levels 1 e)
    by false e = inr (
      AtMost-trans (greatest_left nest buffer) (greatest_right (widest p.fields) (greatest nest buffer)),
      AtMost-trans (greatest_right nest buffer) (greatest_right (widest p.fields) (greatest nest buffer)),
    )

larger_on : (d r : ℤ) → pos 1 ≤ℤ d → pos 1 ≤ℤ r → (d ≤ℤ (d *ℤ r)) × (pos 1 ≤ℤ (d *ℤ r))
larger_on d r p q =
    let m = mul_le d (pos 1) r (omega (arith, ints, p)) q in
    let c = mul_comm d r in
    let e = mul_one d in
    (omega (arith, ints, m, c, e), omega (arith, ints, m, c, e, p))

module _ (p : Fields) (is : IsProblem p) where
  each_ratio : (r : IVec) → Member r p.ratio → IsStep r
  each_ratio r m =
      axes_of p.dim (pos 1) (pos 2) (pos 4) r (omega (arith, ints)) (members_pass (axes_within p.dim (pos 2) (pos 4)) p.ratio is.ratio r m)
      (λ two.
      let e : r.k ≡ pos 1 = int_is r.k (pos 1) (members_pass (λ r. int_eq r.k (pos 1)) p.ratio (is.flat two).ratio r m) in
      (omega (arith, ints, e), omega (arith, ints, e)))

  pub step_is : (l : ℕ) → IsStep (step_of p l)
  step_is l = each_of IsStep p.ratio (alike (pos 1)) each_ratio one_step l

  ratio_up : (l : ℕ) (m : ℤ) → Between (alike (pos 1)) (ratio_to p l) (alike m) → Between (alike (pos 1)) (ratio_to p (suc l)) (alike (m *ℤ pos 4))
  ratio_up l m h = product_of (ratio_to p l) (step_of p l) m h (step_is l)

  ratio_of : (l : ℕ) → l ≤ 4 → IsRatio (ratio_to p l)
  ratio_of l few = by l few
    where
      r0 : Between (alike (pos 1)) (ratio_to p 0) (alike (pos 1))
      r0 = record { low = one_step.low; high = one_step.low }

      r1 : Between (alike (pos 1)) (ratio_to p 1) (alike (pos 4))
      r1 = ratio_up 0 (pos 1) r0

      r2 : Between (alike (pos 1)) (ratio_to p 2) (alike (pos 16))
      r2 = ratio_up 1 (pos 4) r1

      r3 : Between (alike (pos 1)) (ratio_to p 3) (alike (pos 64))
      r3 = ratio_up 2 (pos 16) r2

      r4 : Between (alike (pos 1)) (ratio_to p 4) (alike (pos 256))
      r4 = ratio_up 3 (pos 64) r3

      by : (l : ℕ) → l ≤ 4 → IsRatio (ratio_to p l)
      by zero h = up_to (pos 1) (ratio_to p 0) (omega (arith, ints)) r0
      by (suc zero) h = up_to (pos 4) (ratio_to p 1) (omega (arith, ints)) r1
      by (suc (suc zero)) h = up_to (pos 16) (ratio_to p 2) (omega (arith, ints)) r2
      by (suc (suc (suc zero))) h = up_to (pos 64) (ratio_to p 3) (omega (arith, ints)) r3
      by (suc (suc (suc (suc zero)))) h = up_to (pos 256) (ratio_to p 4) (omega (arith, ints)) r4
      by (suc (suc (suc (suc (suc l))))) h = absurd (omega (arith, h))

  begun : HasLevel0 p
  begun = has_level0 p is

  few_levels : (l : ℕ) → suc l ≤ p.levels → (l ≤ 4) × (l ≤ length p.ratio)
  few_levels l h = (omega (arith, h, is.levels.below), omega (arith, h, is.ratios))

  finest_few : cells_in (lengths_of p.domain p.ratio) ≤ 4194304
  unfolding is_large
  finest_few = not_more (cells_in (lengths_of p.domain p.ratio)) is.finest
    where
      not_more : (n : ℕ) → nat_lt 4194304 n ≡ false → n ≤ 4194304
      not_more n e = grind (arith, nat_tests)

  times_one : (d : IVec) → times d (alike (pos 1)) ≡ d
  times_one d =
      let on : (a : ℤ) → a *ℤ pos 1 ≡ a = λ a. mul_comm a (pos 1) ∙ mul_one a in
      same_cell (on d.k) (on d.j) (on d.i)

  lengths_few : (l : ℕ) → suc l ≤ p.levels → cells_in (sizes (times p.domain (ratio_to p l))) ≤ 4194304
  unfolding lengths_of
  lengths_few l h =
      let least = within_finest p.ratio p.domain (alike (pos 1)) l (λ r m. (each_ratio r m).low) (few_levels l h).1 in
      let e = ap (λ (v : IVec). cells_in (sizes (times p.domain v))) (ratio_is p l (few_levels l h).1) in
      let f = ap (λ (v : IVec). cells_in (fold lengths.refined (sizes v) p.ratio)) (times_one p.domain) in
      let g = finest_few in
      omega (arith, least, e, f, g)

  domain_low : AtMost (alike (pos 1)) p.domain
  domain_low = begun.area.frame.low

  larger : (l : ℕ) → suc l ≤ p.levels → AtMost p.domain (frame_at p l).size × AtMost (alike (pos 1)) (frame_at p l).size
  larger l h =
      let r = (ratio_of l (few_levels l h).0).low in
      let k = larger_on p.domain.k (ratio_to p l).k domain_low.k r.k in
      let j = larger_on p.domain.j (ratio_to p l).j domain_low.j r.j in
      let i = larger_on p.domain.i (ratio_to p l).i domain_low.i r.i in
      (record { k = k.0; j = j.0; i = i.0 }, record { k = k.1; j = j.1; i = i.1 })

  small_frame : (l : ℕ) → suc l ≤ p.levels → AtMost (frame_at p l).size (alike (pos 4194304))
  small_frame l h =
      let low = (larger l h).1 in
      let n = (frame_at p l).size in
      let s = one_small (unsigned_abs n.i) (unsigned_abs n.j) (unsigned_abs n.k) 4194304 (abs_some n.i low.i) (abs_some n.j low.j) (abs_some n.k low.k) (lengths_few l h) in
      record { k = back n.k low.k s.2; j = back n.j low.j s.1; i = back n.i low.i s.0 }
    where
      back : (z : ℤ) → pos 1 ≤ℤ z → unsigned_abs z ≤ 4194304 → z ≤ℤ pos 4194304
      back z one few = omega (arith, ints, one, few)

  space : (l : ℕ) → suc l ≤ p.levels → IsSpace (frame_at p l)
  space l h =
      let s = small_frame l h in
      record { low = (larger l h).1; high = record { k = omega (arith, ints, s.k); j = omega (arith, ints, s.j); i = omega (arith, ints, s.i) } }

  pub region_plain : IsPlain (area_of p)
  region_plain axis periodic = none p.parts refl
    where
      of_axis : (axis : Axis) → SuitsParts p → flag axis p.periodic ≡ true → ⊥
      of_axis I s e = false≢true (sym s.i ∙ e)
      of_axis J s e = false≢true (sym s.j ∙ e)
      of_axis K s e = false≢true (sym s.k ∙ e)

      none : (ps : List Corners) → ps ≡ p.parts → ps ≡ []
      none [] e = refl
      none (q ∷ qs) e =
          let c = ap length e in
          absurd (of_axis axis (is.with_parts (omega (arith, c))) periodic)

  plain : (l : ℕ) → IsPlain (area_at p l)
  plain l axis periodic = ap (λ (ps : List Corners). map (λ q. refined q (ratio_to p l)) ps) (region_plain axis periodic)

  pub domain : (l : ℕ) → suc l ≤ p.levels → HasDomain p l
  domain l h = record {
    is_area = IsArea-finer (area_of p) (ratio_to p l) begun.area (ratio_of l (few_levels l h).0) (space l h);
    plain = plain l;
    ratio = ratio_of l (few_levels l h).0;
    small = small_frame l h;
    few = let e = whole_cells (frame_at p l) in let f = lengths_few l h in omega (arith, e, f);
    wide = (larger l h).0;
  }

  tile_is : (int_eq p.tile (pos 0) ≡ false) → Between (alike (pos 1)) (tile_of p) (alike (pos 1073741824))
  tile_is not_zero =
      elim (or_cases (int_eq p.tile (pos 0)) (is_within (pos 8) (pos 4194304) p.tile) is.tile) [
        | inl zero_tile ↦ absurd (false≢true (sym not_zero ∙ zero_tile))
        | inr some ↦
            let w = within_of (pos 8) (pos 4194304) p.tile some in
            let k = third (p.dim == 2) w.0 w.1 in
            record {
              low = record { k = k.0; j = omega (arith, ints, w.0); i = omega (arith, ints, w.0) };
              high = record { k = k.1; j = omega (arith, ints, w.1); i = omega (arith, ints, w.1) };
            }
      ]
    where
      third : (t : Bool) → pos 8 ≤ℤ p.tile → p.tile ≤ℤ pos 4194304 → (pos 1 ≤ℤ cond t (pos 1) p.tile) × (cond t (pos 1) p.tile ≤ℤ pos 1073741824)
      third true low high = (omega (arith, ints), omega (arith, ints))
      third false low high = (omega (arith, ints, low), omega (arith, ints, high))

  roots_are : (l : ℕ) → suc l ≤ p.levels → AreRoots (whole (frame_at p l)) (roots_at p l)
  unfolding roots_at
  roots_are l h = by (int_eq p.tile (pos 0)) refl
    where
      box : IsBox (whole (frame_at p l))
      box = IsBox-whole (frame_at p l) (space l h)

      few : cells_of (whole (frame_at p l)) < 2 ^ 63
      few = let f = (domain l h).few in omega (arith, f)

      by : (t : Bool) → int_eq p.tile (pos 0) ≡ t
          → AreRoots (whole (frame_at p l)) (cond t (whole (frame_at p l) ∷ []) (blocks_of (tile_of p) (whole (frame_at p l))))
      by true e = alone_is_root (whole (frame_at p l)) box few
      by false e = blocks_are_roots (tile_of p) (whole (frame_at p l)) (tile_is e) box few

  pub can_pass : (l : ℕ) → suc (suc l) ≤ p.levels → CanPass p l
  can_pass l h =
      let wide = width_covers p.levels p.nest p.tag_buffer p in
      record {
        base = begun.area.frame;
        here = domain l (omega (arith, h));
        next = domain (suc l) h;
        step = step_ratio (step_of p l) (step_is l);
        upper = step_ratio (step_of p (suc l)) (step_is (suc l));
        roots = roots_are l (omega (arith, h));
        nest = (axes_of p.dim (pos 0) (pos 1) (pos 8) p.nest (omega (arith, ints)) is.nest
            (λ two. let e = (is.flat two).nest in (omega (arith, ints, e), omega (arith, ints, e)))).low;
        buffer = (axes_of p.dim (pos 0) (pos 0) (pos 8) p.tag_buffer (omega (arith, ints)) is.tag_buffer
            (λ two. let e = (is.flat two).tag_buffer in (omega (arith, ints, e), omega (arith, ints, e)))).low;
        nest_width = subst (AtMost p.nest) (sym is.width) (widths wide).0;
        buffer_width = subst (AtMost p.tag_buffer) (sym is.width) (widths wide).1;
        width = is.wide;
        some_planes = let w = within_of (pos 1) (pos 64) p.smallest is.smallest in omega (arith, ints, w.0);
        some_largest = let w = within_of (pos 1) (pos 4194304) p.largest is.largest in omega (arith, ints, w.0);
      }
    where
      widths : p.levels ≡ 1 ⊎ (AtMost p.nest (width_of p.levels p.nest p.tag_buffer p.fields) × AtMost p.tag_buffer (width_of p.levels p.nest p.tag_buffer p.fields))
          → AtMost p.nest (width_of p.levels p.nest p.tag_buffer p.fields) × AtMost p.tag_buffer (width_of p.levels p.nest p.tag_buffer p.fields)
      widths (inl one) = absurd (omega (arith, one, h))
      widths (inr both) = both
