-- The factors between three levels on one axis, in each of the orders that they may have.
use Rattle.std.proofs.Common.{◌≡◌, sym, ap, subst, ◌∙◌, inl, inr, arith}
use Rattle.std.proofs.lemmas.Int.{ints, clamps}
use Rattle.std.specs.Prelude.{ℤ, pos, ◌+ℤ◌, ◌-ℤ◌, ◌*ℤ◌, ◌≤ℤ◌}
use Rattle.std.specs.Int.{int_max, int_min}
use Rattle.samr_box.specs.Ratios.{floor}
use Rattle.samr_box.proofs.Products.{mul_comm, mul_assoc, mul_le, mul_one}
use Rattle.samr_box.proofs.Floors.{floor-mul, last-from_floor}
use Rattle.samr_bridge.specs.Bridge.{Divides, AreRefinements}
use Rattle.samr_bridge.proofs.OneAxis.{Tied}

floor_self : (r : ℤ) → pos 1 ≤ℤ r → floor r r ≡ pos 1
floor_self r p = ap (λ (v : ℤ). floor v r) (sym (mul_one r)) ∙ floor-mul r (pos 1) (omega (arith, ints))

-- of a number and one that it divides
pub record Compared (a b t : ℤ) : Type 0 where
  pub max : int_max a b ≡ b
  pub min : int_min a b ≡ a
  pub max_back : int_max b a ≡ b
  pub min_back : int_min b a ≡ a
  pub factor : floor b a ≡ t
  pub alone : floor b b ≡ pos 1

pub compared : (a b : ℤ) → pos 1 ≤ℤ a → (d : Divides a b) → Compared a b d.times
compared a b p d =
    let more = mul_le a (pos 1) d.times (omega (arith, ints)) d.positive in
    let up : a ≤ℤ b = omega (arith, ints, more, d.is) in
    record {
      max = omega (arith, ints, clamps);
      min = omega (arith, ints, clamps);
      max_back = omega (arith, ints, clamps);
      min_back = omega (arith, ints, clamps);
      factor = ap (λ (v : ℤ). floor v a) d.is ∙ floor-mul a d.times (omega (arith, ints));
      alone = floor_self b (omega (arith, ints));
    }

-- a width is at least another, rounded up
covers : (w t v : ℤ) → pos 1 ≤ℤ t → floor (w +ℤ (t -ℤ pos 1)) t ≤ℤ v → w ≤ℤ (v *ℤ t)
covers w t v p h =
    let f = last-from_floor (w +ℤ (t -ℤ pos 1)) t v (omega (arith, ints)) h in
    omega (arith, ints, f)

-- the numbers of two scales, from the finer ratios and the factors
abbrev Ties : ℤ → ℤ → ℤ → ℤ → ℤ → ℤ → ℤ → ℤ → ℤ → ℤ → ℤ → Type 0
Ties n w given f u v g cb ch p m = Tied u v ((w *ℤ u) *ℤ v) (n *ℤ f) cb ch ((given *ℤ cb) *ℤ ch) (n *ℤ g) p m

along : (n w given f u v g cb ch p m f' u' v' g' cb' ch' p' : ℤ) → f ≡ f' → u ≡ u' → v ≡ v' → g ≡ g' → cb ≡ cb' → ch ≡ ch' → p ≡ p'
    → Ties n w given f' u' v' g' cb' ch' p' m → Ties n w given f u v g cb ch p m
along n w given f u v g cb ch p m f' u' v' g' cb' ch' p' ef eu ev eg ecb ech ep t =
    subst (λ (x : ℤ). Ties n w given x u v g cb ch p m) (sym ef)
    (subst (λ (x : ℤ). Ties n w given f' x v g cb ch p m) (sym eu)
    (subst (λ (x : ℤ). Ties n w given f' u' x g cb ch p m) (sym ev)
    (subst (λ (x : ℤ). Ties n w given f' u' v' x cb ch p m) (sym eg)
    (subst (λ (x : ℤ). Ties n w given f' u' v' g' x ch p m) (sym ecb)
    (subst (λ (x : ℤ). Ties n w given f' u' v' g' cb' x p m) (sym ech)
    (subst (λ (x : ℤ). Ties n w given f' u' v' g' cb' ch' x m) (sym ep) t))))))

pub not_negative : (a b : ℤ) → pos 0 ≤ℤ a → pos 1 ≤ℤ b → pos 0 ≤ℤ (a *ℤ b)
not_negative a b p q = let h = mul_le b (pos 0) a (omega (arith, ints)) p in omega (arith, ints, h)

positive : (a b : ℤ) → pos 1 ≤ℤ a → pos 1 ≤ℤ b → pos 1 ≤ℤ (a *ℤ b)
positive a b p q = let h = mul_le b (pos 1) a (omega (arith, ints)) p in omega (arith, ints, h)

-- the west is coarser than the centre by a, and the east finer than it by p
west_coarser : (n w given centre east a p : ℤ) → pos 1 ≤ℤ a → pos 1 ≤ℤ p → pos 0 ≤ℤ w → w ≤ℤ given → east ≡ p *ℤ centre
    → Ties n w given east (pos 1) (p *ℤ a) centre (pos 1) a p p
west_coarser n w given centre east a p pa pp pw wide is =
    let v = positive p a pp pa in
    let r = not_negative w (p *ℤ a) pw v in
    let size = ap (λ (x : ℤ). n *ℤ x) (is ∙ mul_comm p centre) ∙ sym (mul_assoc n centre p) in
    let one = ap (λ (x : ℤ). x *ℤ (p *ℤ a)) (mul_comm w (pos 1) ∙ mul_one w) in
    let one2 = ap (λ (x : ℤ). (x *ℤ a) *ℤ p) (mul_comm given (pos 1) ∙ mul_one given) in
    let split = mul_assoc given a p in
    let turn = ap (λ (x : ℤ). given *ℤ x) (mul_comm a p) in
    let more = mul_le (p *ℤ a) w given (omega (arith, ints, v)) wide in
    record {
      some_base = omega (arith, ints);
      some_head = v;
      some_east = pp;
      some_fine = pp;
      from_zero = omega (arith, ints, r, one);
      base = omega (arith, ints);
      head = mul_comm p a;
      step = size;
      wide = omega (arith, ints, one, one2, split, turn, more);
    }

-- the west is finer than the centre by a, and the east finer than the west by b
west_between : (n w given centre west east a b p : ℤ) → pos 1 ≤ℤ a → pos 1 ≤ℤ b → pos 1 ≤ℤ p → pos 0 ≤ℤ w → w ≤ℤ (given *ℤ a)
    → east ≡ b *ℤ west → p ≡ b *ℤ a → Ties n w given east (pos 1) b west a (pos 1) p b
west_between n w given centre west east a b p pa pb pp pw wide is factor =
    let r = not_negative w b pw pb in
    let size = ap (λ (x : ℤ). n *ℤ x) (is ∙ mul_comm b west) ∙ sym (mul_assoc n west b) in
    let one = ap (λ (x : ℤ). x *ℤ b) (mul_comm w (pos 1) ∙ mul_one w) in
    let one2 = ap (λ (x : ℤ). x *ℤ b) (mul_comm (given *ℤ a) (pos 1) ∙ mul_one (given *ℤ a)) in
    let more = mul_le b w (given *ℤ a) (omega (arith, ints, pb)) wide in
    let turn = mul_comm a b in
    record {
      some_base = omega (arith, ints);
      some_head = pb;
      some_east = pp;
      some_fine = pb;
      from_zero = omega (arith, ints, r, one);
      base = omega (arith, ints, factor, turn);
      head = omega (arith, ints);
      step = size;
      wide = omega (arith, ints, one, one2, more);
    }

-- the east is finer than the centre by p, and the west finer than the east by b
west_finer : (n w given west b p : ℤ) → pos 1 ≤ℤ b → pos 1 ≤ℤ p → pos 0 ≤ℤ w → w ≤ℤ (given *ℤ p)
    → Ties n w given west b (pos 1) west (b *ℤ p) (pos 1) p (pos 1)
west_finer n w given west b p pb pp pw wide =
    let r = not_negative w b pw pb in
    let split = mul_assoc given p b in
    let turn = ap (λ (x : ℤ). given *ℤ x) (mul_comm b p) in
    let more = mul_le b w (given *ℤ p) (omega (arith, ints, pb)) wide in
    record {
      some_base = pb;
      some_head = omega (arith, ints);
      some_east = pp;
      some_fine = omega (arith, ints);
      from_zero = omega (arith, ints, r);
      base = omega (arith, ints, mul_comm p b);
      head = omega (arith, ints);
      step = omega (arith, ints);
      wide = omega (arith, ints, more, split, turn);
    }

-- the scales of east and west and of centre and west, in all three orders
abbrev pub TiedRatios : ℤ → ℤ → ℤ → ℤ → ℤ → ℤ → ℤ → Type 0
TiedRatios n w given east centre west m =
    let f = int_max east west in
    let g = int_max centre west in
    Tied (floor f east) (floor f west) ((w *ℤ floor f east) *ℤ floor f west) (n *ℤ f)
    (floor g centre) (floor g west) ((given *ℤ floor g centre) *ℤ floor g west) (n *ℤ g) (floor east centre) m

abbrev divides_on : (a b d : ℤ) → Divides a b → Divides b d → Divides a d
divides_on a b d x y = record {
  times = y.times *ℤ x.times;
  positive = positive y.times x.times y.positive x.positive;
  is = y.is ∙ ap (λ (v : ℤ). y.times *ℤ v) x.is ∙ sym (mul_assoc y.times x.times a);
}

pub tied_ratios : (n w given east centre west : ℤ) → pos 1 ≤ℤ centre → pos 1 ≤ℤ east → pos 1 ≤ℤ west → pos 0 ≤ℤ w → AreRefinements east centre west
    → floor (w +ℤ (floor (int_min east west) (int_min centre west) -ℤ pos 1)) (floor (int_min east west) (int_min centre west)) ≤ℤ given
    → (m : ℤ) × TiedRatios n w given east centre west m
tied_ratios n w given east centre west pc pe pw p h wide =
    let e = compared centre east pc h.fine in
    elim h.order [
      | inl d ↦
          let a = compared west centre pw d in
          let b = compared west east pw (divides_on west centre east d h.fine) in
          let t : floor (int_min east west) (int_min centre west) ≡ pos 1 =
          ap (λ (x : ℤ). floor x (int_min centre west)) b.min_back ∙ ap (λ (x : ℤ). floor west x) a.min_back ∙ floor_self west pw in
          let fits = subst (λ (x : ℤ). floor (w +ℤ (x -ℤ pos 1)) x ≤ℤ given) t wide in
          let enough = covers w (pos 1) given (omega (arith, ints)) fits in
          let enough2 : w ≤ℤ given = omega (arith, ints, enough) in (
            h.fine.times,
            along n w given _ _ _ _ _ _ _ h.fine.times east (pos 1) (h.fine.times *ℤ d.times) centre (pos 1) d.times h.fine.times
                b.max_back
                (ap (λ (x : ℤ). floor x east) b.max_back ∙ b.alone)
                (ap (λ (x : ℤ). floor x west) b.max_back ∙ b.factor)
                a.max_back
                (ap (λ (x : ℤ). floor x centre) a.max_back ∙ a.alone)
                (ap (λ (x : ℤ). floor x west) a.max_back ∙ a.factor)
                e.factor
                (west_coarser n w given centre east d.times h.fine.times d.positive h.fine.positive p enough2 h.fine.is),
          )
      | inr rest ↦ elim rest [
        | inl (d, f) ↦
            let a = compared centre west pc d in
            let b = compared west east pw f in
            let t : floor (int_min east west) (int_min centre west) ≡ d.times =
            ap (λ (x : ℤ). floor x (int_min centre west)) b.min_back ∙ ap (λ (x : ℤ). floor west x) a.min ∙ a.factor in
            let fits = subst (λ (x : ℤ). floor (w +ℤ (x -ℤ pos 1)) x ≤ℤ given) t wide in
            let enough = covers w d.times given d.positive fits in
            let both = compared centre east pc (divides_on centre west east d f) in
            let factor : h.fine.times ≡ f.times *ℤ d.times = sym e.factor ∙ both.factor in (
              f.times,
              along n w given _ _ _ _ _ _ _ f.times east (pos 1) f.times west d.times (pos 1) h.fine.times
                  b.max_back
                  (ap (λ (x : ℤ). floor x east) b.max_back ∙ b.alone)
                  (ap (λ (x : ℤ). floor x west) b.max_back ∙ b.factor)
                  a.max
                  (ap (λ (x : ℤ). floor x centre) a.max ∙ a.factor)
                  (ap (λ (x : ℤ). floor x west) a.max ∙ a.alone)
                  e.factor
                  (west_between n w given centre west east d.times f.times h.fine.times d.positive f.positive h.fine.positive p enough f.is factor),
            )
        | inr d ↦
            let a = compared east west pe d in
            let b = compared centre west pc (divides_on centre east west h.fine d) in
            let t : floor (int_min east west) (int_min centre west) ≡ h.fine.times =
            ap (λ (x : ℤ). floor x (int_min centre west)) a.min ∙ ap (λ (x : ℤ). floor east x) b.min ∙ e.factor in
            let fits = subst (λ (x : ℤ). floor (w +ℤ (x -ℤ pos 1)) x ≤ℤ given) t wide in
            let enough = covers w h.fine.times given h.fine.positive fits in (
              pos 1,
              along n w given _ _ _ _ _ _ _ (pos 1) west d.times (pos 1) west (d.times *ℤ h.fine.times) (pos 1) h.fine.times
                  a.max
                  (ap (λ (x : ℤ). floor x east) a.max ∙ a.factor)
                  (ap (λ (x : ℤ). floor x west) a.max ∙ a.alone)
                  b.max
                  (ap (λ (x : ℤ). floor x centre) b.max ∙ b.factor)
                  (ap (λ (x : ℤ). floor x west) b.max ∙ b.alone)
                  e.factor
                  (west_finer n w given west d.times h.fine.times d.positive h.fine.positive p enough),
            )
      ]
    ]
