-- Overlaps of two levels of one index space, and of the one with the other refined.
use Rattle.std.proofs.Common.{◌≡◌, refl, sym, ap, ◌∙◌, arith}
use Rattle.std.proofs.lemmas.Int.{ints, clamps, by_lt_z}
use Rattle.std.specs.Prelude.{ℤ, pos, ◌+ℤ◌, ◌-ℤ◌, ◌*ℤ◌, ◌≤ℤ◌, Bool, true, false, cond, List, [], ◌∷◌, ◌++◌, map, filter, ◌↔◌}
use Rattle.std.specs.Int.{int_max}
use Rattle.std.specs.List.{flat_map}
use Rattle.samr_box.specs.declared.vector.IVec.{IVec}
use Rattle.samr_box.specs.Vector.{alike, times, greatest, AtMost, IsRatio}
use Rattle.samr_box.specs.Corners.{Corners, grown}
use Rattle.samr_box.specs.Ratios.{floor, coarse, refined}
use Rattle.samr_box.specs.Space.{Space, finer, image}
use Rattle.samr_box.proofs.CellSets.{meets-from, Meet-test}
use Rattle.samr_box.proofs.Floors.{floor_self, floor-mul}
use Rattle.samr_box.proofs.Products.{mul-plus, mul-minus, mul_assoc, mul_comm, mul_one, mul_le}
use Rattle.samr_box.proofs.Vectors.{same_cell}
use Rattle.samr_boxlist.proofs.Covering.{same_test}
use Rattle.samr_level.specs.Refs.{Owned, Link, link}
use Rattle.samr_level.specs.Overlaps.{Scale, scale, near, shifts, all_links, is_true, true_overlaps}
use Rattle.samr_level.proofs.Steps.{map_append}
use Rattle.samr_level.specs.Refined.{refined_box, refined_level, head_refined, base_refined}

-- the scales
product_on : (a b : ℤ) → pos 1 ≤ℤ a → pos 1 ≤ℤ b → (a ≤ℤ (a *ℤ b)) × (pos 1 ≤ℤ (a *ℤ b))
product_on a b p q =
    let m = mul_le a (pos 1) b (omega (arith, ints, p)) q in
    let c = mul_comm a b in
    let e = mul_one a in
    (omega (arith, ints, m, c, e), omega (arith, ints, m, c, e, p))

greater_on : (r q : ℤ) → pos 1 ≤ℤ r → pos 1 ≤ℤ q → int_max r (r *ℤ q) ≡ r *ℤ q
greater_on r q p h = let m = (product_on r q p h).0 in omega (arith, ints, clamps, m)

greater_back : (r q : ℤ) → pos 1 ≤ℤ r → pos 1 ≤ℤ q → int_max (r *ℤ q) r ≡ r *ℤ q
greater_back r q p h = let m = (product_on r q p h).0 in omega (arith, ints, clamps, m)

max_self : (r : ℤ) → int_max r r ≡ r
max_self r = omega (arith, ints, clamps)

factor_on : (r q : ℤ) → pos 1 ≤ℤ r → floor (r *ℤ q) r ≡ q
factor_on r q p = ap (λ (v : ℤ). floor v r) (mul_comm r q) ∙ floor-mul r q (omega (arith, ints, p))

one_on : (r : ℤ) → pos 1 ≤ℤ r → floor r r ≡ pos 1
one_on r p = floor_self r (omega (arith, ints, p))

scale_of : Space → IVec → IVec → IVec → IVec → Scale
scale_of frame width finest base head = record { base = base; head = head; reach = times (times width base) head; domain = finer frame finest }

module _ (frame : Space) (width r step : IVec) (q : IsRatio r) (t : IsRatio step) where
  product_low : AtMost (alike (pos 1)) (times r step)
  product_low = record {
    k = (product_on r.k step.k q.low.k t.low.k).1;
    j = (product_on r.j step.j q.low.j t.low.j).1;
    i = (product_on r.i step.i q.low.i t.low.i).1;
  }

  same_scale : scale frame width r r ≡ scale_of frame width r (alike (pos 1)) (alike (pos 1))
  unfolding scale_of
  same_scale =
      let g : greatest r r ≡ r = same_cell (max_self r.k) (max_self r.j) (max_self r.i) in
      let o : coarse r r ≡ alike (pos 1) = same_cell (one_on r.k q.low.k) (one_on r.j q.low.j) (one_on r.i q.low.i) in
      ap (λ (v : IVec). scale_of frame width v (coarse v r) (coarse v r)) g ∙ ap (λ (v : IVec). scale_of frame width r v v) o

  pub finer_of_base : coarse (times r step) r ≡ step
  finer_of_base = same_cell (factor_on r.k step.k q.low.k) (factor_on r.j step.j q.low.j) (factor_on r.i step.i q.low.i)

  finer_of_itself : coarse (times r step) (times r step) ≡ alike (pos 1)
  finer_of_itself = same_cell (one_on (times r step).k product_low.k) (one_on (times r step).j product_low.j) (one_on (times r step).i product_low.i)

  head_scale : scale frame width r (times r step) ≡ scale_of frame width (times r step) step (alike (pos 1))
  unfolding scale_of
  head_scale =
      let g : greatest r (times r step) ≡ times r step = same_cell (greater_on r.k step.k q.low.k t.low.k) (greater_on r.j step.j q.low.j t.low.j) (greater_on r.i step.i q.low.i t.low.i) in
      ap (λ (v : IVec). scale_of frame width v (coarse v r) (coarse v (times r step))) g
      ∙ ap (λ (v : IVec). scale_of frame width (times r step) v (coarse (times r step) (times r step))) finer_of_base
      ∙ ap (λ (v : IVec). scale_of frame width (times r step) step v) finer_of_itself

  base_scale : scale frame width (times r step) r ≡ scale_of frame width (times r step) (alike (pos 1)) step
  unfolding scale_of
  base_scale =
      let g : greatest (times r step) r ≡ times r step = same_cell (greater_back r.k step.k q.low.k t.low.k) (greater_back r.j step.j q.low.j t.low.j) (greater_back r.i step.i q.low.i t.low.i) in
      ap (λ (v : IVec). scale_of frame width v (coarse v (times r step)) (coarse v r)) g
      ∙ ap (λ (v : IVec). scale_of frame width (times r step) v (coarse (times r step) r)) finer_of_itself
      ∙ ap (λ (v : IVec). scale_of frame width (times r step) (alike (pos 1)) v) finer_of_base

-- on one axis: coarse cells compare as their refinements do
scaled : (d t : ℤ) → pos 1 ≤ℤ t → ((d *ℤ t) ≤ℤ (t -ℤ pos 1)) ↔ (d ≤ℤ pos 0)
scaled d t one = (
  λ h. by d h,
  λ h. let m = mul_le t d (pos 0) (omega (arith, ints, one)) h in omega (arith, ints, m, one),
)
  where
    by : (d : ℤ) → (d *ℤ t) ≤ℤ (t -ℤ pos 1) → d ≤ℤ pos 0
    by d h = by_lt_z (pos 0) d (λ more. let m = mul_le t (pos 1) d (omega (arith, ints, one)) (omega (arith, ints, more)) in let e = mul_one t in absurd (omega (arith, ints, m, e, h))) (λ le. le)

spread : (s N r t : ℤ) → s *ℤ (N *ℤ (r *ℤ t)) ≡ (s *ℤ (N *ℤ r)) *ℤ t
spread s N r t = ap (λ (v : ℤ). s *ℤ v) (sym (mul_assoc N r t)) ∙ sym (mul_assoc s (N *ℤ r) t)

-- x less the width is at most y, seen from where its image stands
low_on : (x w y s N r t : ℤ) → pos 1 ≤ℤ t
    → (((x *ℤ t) -ℤ (w *ℤ t)) ≤ℤ (((y *ℤ t) +ℤ (t -ℤ pos 1)) +ℤ (s *ℤ (N *ℤ (r *ℤ t))))) ↔ ((x -ℤ w) ≤ℤ (y +ℤ (s *ℤ (N *ℤ r))))
low_on x w y s N r t one =
    let e = spread s N r t in
    let a = mul-minus x w t in
    let b = mul-plus y (s *ℤ (N *ℤ r)) t in
    let c = mul-minus (x -ℤ w) (y +ℤ (s *ℤ (N *ℤ r))) t in
    let law = scaled ((x -ℤ w) -ℤ (y +ℤ (s *ℤ (N *ℤ r)))) t one in (
      λ h. let m = law.0 (omega (arith, ints, h, e, a, b, c)) in omega (arith, ints, m),
      λ h. let m = law.1 (omega (arith, ints, h)) in omega (arith, ints, m, e, a, b, c),
    )

high_on : (x w y s N r t : ℤ) → pos 1 ≤ℤ t
    → (((x *ℤ t) +ℤ (s *ℤ (N *ℤ (r *ℤ t)))) ≤ℤ (((y *ℤ t) +ℤ (t -ℤ pos 1)) +ℤ (w *ℤ t))) ↔ ((x +ℤ (s *ℤ (N *ℤ r))) ≤ℤ (y +ℤ w))
high_on x w y s N r t one =
    let e = spread s N r t in
    let a = mul-plus x (s *ℤ (N *ℤ r)) t in
    let b = mul-plus y w t in
    let c = mul-minus (x +ℤ (s *ℤ (N *ℤ r))) (y +ℤ w) t in
    let law = scaled ((x +ℤ (s *ℤ (N *ℤ r))) -ℤ (y +ℤ w)) t one in (
      λ h. let m = law.0 (omega (arith, ints, h, e, a, b, c)) in omega (arith, ints, m),
      λ h. let m = law.1 (omega (arith, ints, h)) in omega (arith, ints, m, e, a, b, c),
    )

ones : (z : ℤ) → z *ℤ pos 1 ≡ z
ones z = mul_comm z (pos 1) ∙ mul_one z

-- the same as the scales write it
abbrev SameLow : ℤ → ℤ → ℤ → ℤ → ℤ → ℤ → Type 0
SameLow x w y s N r = ((x *ℤ pos 1) -ℤ ((w *ℤ pos 1) *ℤ pos 1)) ≤ℤ (((y *ℤ pos 1) +ℤ (pos 1 -ℤ pos 1)) +ℤ (s *ℤ (N *ℤ r)))

abbrev SameHigh : ℤ → ℤ → ℤ → ℤ → ℤ → ℤ → Type 0
SameHigh x w y s N r = ((x *ℤ pos 1) +ℤ (s *ℤ (N *ℤ r))) ≤ℤ (((y *ℤ pos 1) +ℤ (pos 1 -ℤ pos 1)) +ℤ ((w *ℤ pos 1) *ℤ pos 1))

same_low : (x w y s N r : ℤ) → SameLow x w y s N r ↔ ((x -ℤ w) ≤ℤ (y +ℤ (s *ℤ (N *ℤ r))))
same_low x w y s N r =
    let a = ones x in let b = ones w in let c = ones (w *ℤ pos 1) in let d = ones y in
    (λ h. omega (arith, ints, h, a, b, c, d), λ h. omega (arith, ints, h, a, b, c, d))

same_high : (x w y s N r : ℤ) → SameHigh x w y s N r ↔ ((x +ℤ (s *ℤ (N *ℤ r))) ≤ℤ (y +ℤ w))
same_high x w y s N r =
    let a = ones x in let b = ones w in let c = ones (w *ℤ pos 1) in let d = ones y in
    (λ h. omega (arith, ints, h, a, b, c, d), λ h. omega (arith, ints, h, a, b, c, d))

abbrev OverLow : ℤ → ℤ → ℤ → ℤ → ℤ → ℤ → ℤ → Type 0
OverLow x w y s N r t = ((x *ℤ t) -ℤ ((w *ℤ t) *ℤ pos 1)) ≤ℤ (((((y *ℤ t) +ℤ (t -ℤ pos 1)) *ℤ pos 1) +ℤ (pos 1 -ℤ pos 1)) +ℤ (s *ℤ (N *ℤ (r *ℤ t))))

abbrev OverHigh : ℤ → ℤ → ℤ → ℤ → ℤ → ℤ → ℤ → Type 0
OverHigh x w y s N r t = (((x *ℤ t) *ℤ pos 1) +ℤ (s *ℤ (N *ℤ (r *ℤ t)))) ≤ℤ (((y *ℤ t) +ℤ (t -ℤ pos 1)) +ℤ ((w *ℤ t) *ℤ pos 1))

over_low : (x w y s N r t : ℤ) → pos 1 ≤ℤ t → OverLow x w y s N r t ↔ SameLow x w y s N r
over_low x w y s N r t one =
    let a = ones (w *ℤ t) in
    let b = ones ((y *ℤ t) +ℤ (t -ℤ pos 1)) in
    let f = low_on x w y s N r t one in
    let g = same_low x w y s N r in
    (λ h. g.1 (f.0 (omega (arith, ints, h, a, b))), λ h. let m = f.1 (g.0 h) in omega (arith, ints, m, a, b))

over_high : (x w y s N r t : ℤ) → pos 1 ≤ℤ t → OverHigh x w y s N r t ↔ SameHigh x w y s N r
over_high x w y s N r t one =
    let a = ones (w *ℤ t) in
    let b = ones (x *ℤ t) in
    let f = high_on x w y s N r t one in
    let g = same_high x w y s N r in
    (λ h. g.1 (f.0 (omega (arith, ints, h, a, b))), λ h. let m = f.1 (g.0 h) in omega (arith, ints, m, a, b))

abbrev UnderLow : ℤ → ℤ → ℤ → ℤ → ℤ → ℤ → ℤ → Type 0
UnderLow x w y s N r t = (((x *ℤ t) *ℤ pos 1) -ℤ ((w *ℤ pos 1) *ℤ t)) ≤ℤ (((y *ℤ t) +ℤ (t -ℤ pos 1)) +ℤ (s *ℤ (N *ℤ (r *ℤ t))))

abbrev UnderHigh : ℤ → ℤ → ℤ → ℤ → ℤ → ℤ → ℤ → Type 0
UnderHigh x w y s N r t = ((x *ℤ t) +ℤ (s *ℤ (N *ℤ (r *ℤ t)))) ≤ℤ (((((y *ℤ t) +ℤ (t -ℤ pos 1)) *ℤ pos 1) +ℤ (pos 1 -ℤ pos 1)) +ℤ ((w *ℤ pos 1) *ℤ t))

under_low : (x w y s N r t : ℤ) → pos 1 ≤ℤ t → UnderLow x w y s N r t ↔ SameLow x w y s N r
under_low x w y s N r t one =
    let a = ones (x *ℤ t) in
    let b = ap (λ (v : ℤ). v *ℤ t) (ones w) in
    let f = low_on x w y s N r t one in
    let g = same_low x w y s N r in
    (λ h. g.1 (f.0 (omega (arith, ints, h, a, b))), λ h. let m = f.1 (g.0 h) in omega (arith, ints, m, a, b))

under_high : (x w y s N r t : ℤ) → pos 1 ≤ℤ t → UnderHigh x w y s N r t ↔ SameHigh x w y s N r
under_high x w y s N r t one =
    let a = ones ((y *ℤ t) +ℤ (t -ℤ pos 1)) in
    let b = ap (λ (v : ℤ). v *ℤ t) (ones w) in
    let f = high_on x w y s N r t one in
    let g = same_high x w y s N r in
    (λ h. g.1 (f.0 (omega (arith, ints, h, a, b))), λ h. let m = f.1 (g.0 h) in omega (arith, ints, m, a, b))

-- the tests of nearness agree: of a box and a head, or of a base and a box
module _ (frame : Space) (width r step : IVec) (q : IsRatio r) (t : IsRatio step) (a b : Corners) (s : IVec) where
  same : Scale
  same = scale_of frame width r (alike (pos 1)) (alike (pos 1))

  over : Scale
  over = scale_of frame width (times r step) step (alike (pos 1))

  under : Scale
  under = scale_of frame width (times r step) (alike (pos 1)) step

  over_near : near over a (refined b step) s ≡ near same a b s
  unfolding over same scale_of
  over_near =
      let N = frame.size in
      same_test (near over a (refined b step) s) (near same a b s)
      (λ h. let m = Meet-test {a = grown (refined a step) over.reach} {b = image over.domain (refined (refined b step) (alike (pos 1))) s} h in
      meets-from {a = grown (refined a (alike (pos 1))) same.reach} {b = image same.domain (refined b (alike (pos 1))) s} (record {
        low = record {
          k = (over_low a.lo.k width.k b.hi.k s.k N.k r.k step.k t.low.k).0 m.low.k;
          j = (over_low a.lo.j width.j b.hi.j s.j N.j r.j step.j t.low.j).0 m.low.j;
          i = (over_low a.lo.i width.i b.hi.i s.i N.i r.i step.i t.low.i).0 m.low.i;
        };
        high = record {
          k = (over_high b.lo.k width.k a.hi.k s.k N.k r.k step.k t.low.k).0 m.high.k;
          j = (over_high b.lo.j width.j a.hi.j s.j N.j r.j step.j t.low.j).0 m.high.j;
          i = (over_high b.lo.i width.i a.hi.i s.i N.i r.i step.i t.low.i).0 m.high.i;
        };
      }))
      (λ h. let m = Meet-test {a = grown (refined a (alike (pos 1))) same.reach} {b = image same.domain (refined b (alike (pos 1))) s} h in
      meets-from {a = grown (refined a step) over.reach} {b = image over.domain (refined (refined b step) (alike (pos 1))) s} (record {
        low = record {
          k = (over_low a.lo.k width.k b.hi.k s.k N.k r.k step.k t.low.k).1 m.low.k;
          j = (over_low a.lo.j width.j b.hi.j s.j N.j r.j step.j t.low.j).1 m.low.j;
          i = (over_low a.lo.i width.i b.hi.i s.i N.i r.i step.i t.low.i).1 m.low.i;
        };
        high = record {
          k = (over_high b.lo.k width.k a.hi.k s.k N.k r.k step.k t.low.k).1 m.high.k;
          j = (over_high b.lo.j width.j a.hi.j s.j N.j r.j step.j t.low.j).1 m.high.j;
          i = (over_high b.lo.i width.i a.hi.i s.i N.i r.i step.i t.low.i).1 m.high.i;
        };
      }))

  under_near : near under (refined a step) b s ≡ near same a b s
  unfolding under same scale_of
  under_near =
      let N = frame.size in
      same_test (near under (refined a step) b s) (near same a b s)
      (λ h. let m = Meet-test {a = grown (refined (refined a step) (alike (pos 1))) under.reach} {b = image under.domain (refined b step) s} h in
      meets-from {a = grown (refined a (alike (pos 1))) same.reach} {b = image same.domain (refined b (alike (pos 1))) s} (record {
        low = record {
          k = (under_low a.lo.k width.k b.hi.k s.k N.k r.k step.k t.low.k).0 m.low.k;
          j = (under_low a.lo.j width.j b.hi.j s.j N.j r.j step.j t.low.j).0 m.low.j;
          i = (under_low a.lo.i width.i b.hi.i s.i N.i r.i step.i t.low.i).0 m.low.i;
        };
        high = record {
          k = (under_high b.lo.k width.k a.hi.k s.k N.k r.k step.k t.low.k).0 m.high.k;
          j = (under_high b.lo.j width.j a.hi.j s.j N.j r.j step.j t.low.j).0 m.high.j;
          i = (under_high b.lo.i width.i a.hi.i s.i N.i r.i step.i t.low.i).0 m.high.i;
        };
      }))
      (λ h. let m = Meet-test {a = grown (refined a (alike (pos 1))) same.reach} {b = image same.domain (refined b (alike (pos 1))) s} h in
      meets-from {a = grown (refined (refined a step) (alike (pos 1))) under.reach} {b = image under.domain (refined b step) s} (record {
        low = record {
          k = (under_low a.lo.k width.k b.hi.k s.k N.k r.k step.k t.low.k).1 m.low.k;
          j = (under_low a.lo.j width.j b.hi.j s.j N.j r.j step.j t.low.j).1 m.low.j;
          i = (under_low a.lo.i width.i b.hi.i s.i N.i r.i step.i t.low.i).1 m.low.i;
        };
        high = record {
          k = (under_high b.lo.k width.k a.hi.k s.k N.k r.k step.k t.low.k).1 m.high.k;
          j = (under_high b.lo.j width.j a.hi.j s.j N.j r.j step.j t.low.j).1 m.high.j;
          i = (under_high b.lo.i width.i a.hi.i s.i N.i r.i step.i t.low.i).1 m.high.i;
        };
      }))

-- links of refined boxes are refined links
shift_links : (a b : Owned) (f : Link → Link) (a' b' : Owned) (ss : List IVec) → ((s : IVec) → f (link a b s) ≡ link a' b' s)
    → map (λ s. link a' b' s) ss ≡ map f (map (λ s. link a b s) ss)
shift_links a b f a' b' [] each = refl
shift_links a b f a' b' (s ∷ ss) each =
    ap (λ (e : Link). e ∷ map (λ s. link a' b' s) ss) (sym (each s)) ∙ ap (λ (l : List Link). f (link a b s) ∷ l) (shift_links a b f a' b' ss each)

module _ (step : IVec) (ss : List IVec) where
  heads_refined : (a : Owned) (bs : List Owned)
      → flat_map (λ b. map (λ s. link a b s) ss) (refined_level step bs) ≡ map (head_refined step) (flat_map (λ b. map (λ s. link a b s) ss) bs)
  heads_refined a [] = refl
  heads_refined a (b ∷ bs) =
      ap (λ (l : List Link). l ++ flat_map (λ b. map (λ s. link a b s) ss) (refined_level step bs)) (shift_links a b (head_refined step) a (refined_box step b) ss (λ s. refl))
      ∙ ap (λ (l : List Link). map (head_refined step) (map (λ s. link a b s) ss) ++ l) (heads_refined a bs)
      ∙ sym (map_append (head_refined step) (map (λ s. link a b s) ss) (flat_map (λ b. map (λ s. link a b s) ss) bs))

  all_heads : (level pieces : List Owned) → all_links level (refined_level step pieces) ss ≡ map (head_refined step) (all_links level pieces ss)
  all_heads [] pieces = refl
  all_heads (a ∷ level) pieces =
      ap (λ (l : List Link). l ++ all_links level (refined_level step pieces) ss) (heads_refined a pieces)
      ∙ ap (λ (l : List Link). map (head_refined step) (flat_map (λ b. map (λ s. link a b s) ss) pieces) ++ l) (all_heads level pieces)
      ∙ sym (map_append (head_refined step) (flat_map (λ b. map (λ s. link a b s) ss) pieces) (all_links level pieces ss))

  one_base : (a : Owned) (bs : List Owned)
      → flat_map (λ b. map (λ s. link (refined_box step a) b s) ss) bs ≡ map (base_refined step) (flat_map (λ b. map (λ s. link a b s) ss) bs)
  one_base a [] = refl
  one_base a (b ∷ bs) =
      ap (λ (l : List Link). l ++ flat_map (λ b. map (λ s. link (refined_box step a) b s) ss) bs) (shift_links a b (base_refined step) (refined_box step a) b ss (λ s. refl))
      ∙ ap (λ (l : List Link). map (base_refined step) (map (λ s. link a b s) ss) ++ l) (one_base a bs)
      ∙ sym (map_append (base_refined step) (map (λ s. link a b s) ss) (flat_map (λ b. map (λ s. link a b s) ss) bs))

  all_bases : (pieces level : List Owned) → all_links (refined_level step pieces) level ss ≡ map (base_refined step) (all_links pieces level ss)
  all_bases [] level = refl
  all_bases (a ∷ pieces) level =
      ap (λ (l : List Link). l ++ all_links (refined_level step pieces) level ss) (one_base a level)
      ∙ ap (λ (l : List Link). map (base_refined step) (flat_map (λ b. map (λ s. link a b s) ss) level) ++ l) (all_bases pieces level)
      ∙ sym (map_append (base_refined step) (flat_map (λ b. map (λ s. link a b s) ss) level) (all_links pieces level ss))

-- a filter of mapped links
pub filter_mapped : (p p' : Link → Bool) (f : Link → Link) (es : List Link) → ((e : Link) → p' (f e) ≡ p e) → filter p' (map f es) ≡ map f (filter p es)
filter_mapped p p' f [] each = refl
filter_mapped p p' f (e ∷ es) each =
    ap (λ (v : Bool). cond v (f e ∷ filter p' (map f es)) (filter p' (map f es))) (each e)
    ∙ ap (λ (l : List Link). cond (p e) (f e ∷ l) l) (filter_mapped p p' f es each)
    ∙ by (p e)
  where
    by : (v : Bool) → cond v (f e ∷ map f (filter p es)) (map f (filter p es)) ≡ map f (cond v (e ∷ filter p es) (filter p es))
    by true = refl
    by false = refl

module _ (frame : Space) (width r step : IVec) (level pieces : List Owned) (q : IsRatio r) (t : IsRatio step) where
  ss : List IVec
  ss = shifts frame.periodic

  pub heads_over : true_overlaps (scale frame width r (times r step)) level (refined_level step pieces) ≡ map (head_refined step) (true_overlaps (scale frame width r r) level pieces)
  unfolding true_overlaps ss scale_of same over
  heads_over =
      let fine = scale frame width r (times r step) in
      let coarser = scale frame width r r in
      let test : (e : Link) → is_true fine (head_refined step e) ≡ is_true coarser e =
      λ e. ap (λ (n : Scale). near n e.base.bx (refined e.head.bx step) e.shift) (head_scale frame width r step q t)
      ∙ over_near frame width r step q t e.base.bx e.head.bx e.shift
      ∙ ap (λ (n : Scale). near n e.base.bx e.head.bx e.shift) (sym (same_scale frame width r step q t)) in
      ap (λ (l : List Link). filter (λ e. is_true fine e) l) (all_heads step ss level pieces)
      ∙ filter_mapped (λ e. is_true coarser e) (λ e. is_true fine e) (head_refined step) (all_links level pieces ss) test

  pub bases_over : true_overlaps (scale frame width (times r step) r) (refined_level step pieces) level ≡ map (base_refined step) (true_overlaps (scale frame width r r) pieces level)
  unfolding true_overlaps ss scale_of same under
  bases_over =
      let fine = scale frame width (times r step) r in
      let coarser = scale frame width r r in
      let test : (e : Link) → is_true fine (base_refined step e) ≡ is_true coarser e =
      λ e. ap (λ (n : Scale). near n (refined e.base.bx step) e.head.bx e.shift) (base_scale frame width r step q t)
      ∙ under_near frame width r step q t e.base.bx e.head.bx e.shift
      ∙ ap (λ (n : Scale). near n e.base.bx e.head.bx e.shift) (sym (same_scale frame width r step q t)) in
      ap (λ (l : List Link). filter (λ e. is_true fine e) l) (all_bases step ss pieces level)
      ∙ filter_mapped (λ e. is_true coarser e) (λ e. is_true fine e) (base_refined step) (all_links pieces level ss) test
