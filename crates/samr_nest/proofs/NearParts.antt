-- Taking boxes away from a list inside of a box: only their parts in that box count.
use Rattle.std.proofs.Common.{◌≡◌, ◌<◌, refl, sym, ap, ◌∙◌, subst, inl, inr, arith}
use Rattle.std.proofs.lemmas.Int.{ints, clamps, by_lt_z}
use Rattle.std.proofs.lemmas.Bool.{cond-false}
use Rattle.std.specs.Prelude.{ℤ, pos, ◌+ℤ◌, ◌≤ℤ◌, int_lt, Bool, true, false, cond, List, [], ◌∷◌, ◌++◌, Option, Some, None}
use Rattle.std.specs.Int.{int_min, int_max}
use Rattle.std.specs.List.{filter_map, flat_map, cons_option}
use Rattle.std.specs.Option.{option_to_list}
use Rattle.samr_box.specs.declared.vector.Axis.{Axis}
use Rattle.samr_box.specs.declared.vector.Axis.TheVariants.{I, J, K}
use Rattle.samr_box.specs.declared.vector.IVec.{IVec}
use Rattle.samr_box.specs.Vector.{at, put, AtMost, least, greatest}
use Rattle.samr_box.specs.Corners.{Corners, IsBox, Holds, Meet, holds, meets, common, met, before, from_plane, below, above, level}
use Rattle.samr_box.specs.Lists.{Member}
use Rattle.samr_box.proofs.Vectors.{AtMost-trans}
use Rattle.samr_box.proofs.Totals.{same_corners}
use Rattle.samr_box.proofs.CellSets.{meets-from, Meet-test, order-common, Holds-lo, Holds-hi, Holds-test}
use Rattle.samr_box.proofs.Members.{Member-from_flat_map}
use Rattle.samr_boxlist.specs.Slabs.{slabs, without, subtracted, all_subtracted}
use Rattle.samr_boxlist.proofs.Covering.{one, same_test, held-cover}
use Rattle.samr_boxlist.proofs.Cutting.{cover-without, without-apart, IsBox-without}
use Rattle.samr_boxlist.specs.Covers.{cover}
use Rattle.samr_level.proofs.Domains.{held-from}

-- a plane outside of a bound that the box keeps cuts nothing off, and neither does the bound itself
below_same : (axis : Axis) (a : Corners) (g w z : ℤ) → g ≤ℤ at axis a.lo → z ≡ int_max w g
    → cond (int_lt (at axis a.lo) z) (Some (before axis a z)) None ≡ cond (int_lt (at axis a.lo) w) (Some (before axis a w)) None
below_same axis a g w z h e =
    by_lt_z (at axis a.lo) w
    (λ lt.
    let s : z ≡ w = omega (arith, ints, clamps, e, lt, h) in
    ap (λ (v : ℤ). cond (int_lt (at axis a.lo) v) (Some (before axis a v)) None) s)
    (λ ge.
    let zs : z ≤ℤ at axis a.lo = omega (arith, ints, clamps, e, ge, h) in
    let p : int_lt (at axis a.lo) z ≡ false = grind (arith, ints, zs) in
    let q : int_lt (at axis a.lo) w ≡ false = grind (arith, ints, ge) in
    cond-false (int_lt (at axis a.lo) z) (Some (before axis a z)) None p
    ∙ sym (cond-false (int_lt (at axis a.lo) w) (Some (before axis a w)) None q))

above_same : (axis : Axis) (a : Corners) (g w z : ℤ) → at axis a.hi ≤ℤ g → z ≡ int_min w g
    → cond (int_lt z (at axis a.hi)) (Some (from_plane axis a (z +ℤ pos 1))) None ≡ cond (int_lt w (at axis a.hi)) (Some (from_plane axis a (w +ℤ pos 1))) None
above_same axis a g w z h e =
    by_lt_z w (at axis a.hi)
    (λ lt.
    let s : z ≡ w = omega (arith, ints, clamps, e, lt, h) in
    ap (λ (v : ℤ). cond (int_lt v (at axis a.hi)) (Some (from_plane axis a (v +ℤ pos 1))) None) s)
    (λ ge.
    let zs : at axis a.hi ≤ℤ z = omega (arith, ints, clamps, e, ge, h) in
    let p : int_lt z (at axis a.hi) ≡ false = grind (arith, ints, zs) in
    let q : int_lt w (at axis a.hi) ≡ false = grind (arith, ints, ge) in
    cond-false (int_lt z (at axis a.hi)) (Some (from_plane axis a (z +ℤ pos 1))) None p
    ∙ sym (cond-false (int_lt w (at axis a.hi)) (Some (from_plane axis a (w +ℤ pos 1))) None q))

record IsBetween (axis : Axis) (g a : Corners) : Type 0 where
  low : at axis g.lo ≤ℤ at axis a.lo
  high : at axis a.hi ≤ℤ at axis g.hi

at-greatest : (axis : Axis) (x y : IVec) → at axis (greatest x y) ≡ int_max (at axis x) (at axis y)
at-greatest I x y = refl
at-greatest J x y = refl
at-greatest K x y = refl

at-least : (axis : Axis) (x y : IVec) → at axis (least x y) ≡ int_min (at axis x) (at axis y)
at-least I x y = refl
at-least J x y = refl
at-least K x y = refl

slabs_same : (axis : Axis) (g a b : Corners) → IsBetween axis g a → slabs axis a (common b g) ≡ slabs axis a b
slabs_same axis g a b h =
    let low : below axis a (common b g) ≡ below axis a b = below_same axis a (at axis g.lo) (at axis b.lo) (at axis (common b g).lo) h.low (at-greatest axis b.lo g.lo) in
    let high : above axis a (common b g) ≡ above axis a b = above_same axis a (at axis g.hi) (at axis b.hi) (at axis (common b g).hi) h.high (at-least axis b.hi g.hi) in
    ap (λ (o : Option Corners). option_to_list o ++ option_to_list (above axis a (common b g))) low
    ∙ ap (λ (o : Option Corners). option_to_list (below axis a b) ++ option_to_list o) high

level_same : (axis : Axis) (g a b : Corners) → IsBetween axis g a → level axis a (common b g) ≡ level axis a b
level_same axis g a b h =
    let el = at-greatest axis b.lo g.lo in
    let eh = at-least axis b.hi g.hi in
    let l = h.low in
    let u = h.high in
    same_corners
    (ap (put axis a.lo) (omega (arith, ints, clamps, el, l)))
    (ap (put axis a.hi) (omega (arith, ints, clamps, eh, u)))

meets_same : (g a b : Corners) → AtMost a.lo a.hi → AtMost g.lo a.lo → AtMost a.hi g.hi → meets a (common b g) ≡ meets a b
meets_same g a b full low high =
    same_test (meets a (common b g)) (meets a b)
    (λ t. let m = Meet-test {a = a} {b = common b g} t in
    meets-from {a = a} {b = b} (record {
      low = record { k = omega (arith, ints, clamps, m.low.k); j = omega (arith, ints, clamps, m.low.j); i = omega (arith, ints, clamps, m.low.i) };
      high = record { k = omega (arith, ints, clamps, m.high.k); j = omega (arith, ints, clamps, m.high.j); i = omega (arith, ints, clamps, m.high.i) };
    }))
    (λ t. let m = Meet-test {a = a} {b = b} t in
    meets-from {a = a} {b = common b g} (record {
      low = record {
        k = omega (arith, ints, clamps, m.low.k, full.k, high.k);
        j = omega (arith, ints, clamps, m.low.j, full.j, high.j);
        i = omega (arith, ints, clamps, m.low.i, full.i, high.i);
      };
      high = record {
        k = omega (arith, ints, clamps, m.high.k, full.k, low.k);
        j = omega (arith, ints, clamps, m.high.j, full.j, low.j);
        i = omega (arith, ints, clamps, m.high.i, full.i, low.i);
      };
    }))

same_three : (x x' y y' z z' : List Corners) → x ≡ x' → y ≡ y' → z ≡ z' → x ++ y ++ z ≡ x' ++ y' ++ z'
same_three x x' y y' z z' p q r =
    ap (λ (v : List Corners). v ++ y ++ z) p ∙ ap (λ (v : List Corners). x' ++ v ++ z) q ∙ ap (λ (v : List Corners). x' ++ y' ++ v) r

pub without-common : (g a b : Corners) → AtMost a.lo a.hi → AtMost g.lo a.lo → AtMost a.hi g.hi → without a (common b g) ≡ without a b
unfolding without
without-common g a b full low high =
    let on_i : IsBetween I g a = record { low = low.i; high = high.i } in
    let on_j : IsBetween J g (level I a b) = record { low = low.j; high = high.j } in
    let on_k : IsBetween K g (level J (level I a b) b) = record { low = low.k; high = high.k } in
    let c = common b g in
    let li = level_same I g a b on_i in
    let lj = level_same J g (level I a b) b on_j in
    let pieces = same_three (slabs I a c) (slabs I a b)
    (slabs J (level I a c) c) (slabs J (level I a b) b)
    (slabs K (level J (level I a c) c) c) (slabs K (level J (level I a b) b) b)
    (slabs_same I g a b on_i)
    (ap (λ (v : Corners). slabs J v c) li ∙ slabs_same J g (level I a b) b on_j)
    (ap (λ (v : Corners). slabs K (level J v c) c) li ∙ ap (λ (v : Corners). slabs K v c) lj ∙ slabs_same K g (level J (level I a b) b) b on_k) in
    ap (λ (t : Bool). cond t (slabs I a c ++ slabs J (level I a c) c ++ slabs K (level J (level I a c) c) c) (a ∷ [])) (meets_same g a b full low high)
    ∙ ap (λ (v : List Corners). cond (meets a b) v (a ∷ [])) pieces

-- a box inside of another
pub record IsWithin (g a : Corners) : Type 0 where
  pub box : IsBox a
  pub low : AtMost g.lo a.lo
  pub high : AtMost a.hi g.hi

pub within_cells : (g a : Corners) → IsBox a → ((x : IVec) → Holds a x → Holds g x) → IsWithin g a
within_cells g a p f = record {
  box = p;
  low = (f a.lo (Holds-lo {b = a} p.order)).low;
  high = (f a.hi (Holds-hi {b = a} p.order)).high;
}

pub within_has : (g a : Corners) (x : IVec) → IsWithin g a → Holds a x → Holds g x
within_has g a x w h = record { low = AtMost-trans w.low h.low; high = AtMost-trans h.high w.high }

abbrev pub AllWithin : Corners → List Corners → Type 0
AllWithin g list = (a : Corners) → Member a list → IsWithin g a

abbrev pub AllFull : List Corners → Type 0
AllFull bs = (b : Corners) → Member b bs → AtMost b.lo b.hi

pub IsBox-near : (g b : Corners) → IsBox g → AtMost b.lo b.hi → Meet b g → IsBox (common b g)
IsBox-near g b p full m = record {
  low = record { k = omega (arith, ints, clamps, p.low.k); j = omega (arith, ints, clamps, p.low.j); i = omega (arith, ints, clamps, p.low.i) };
  order = order-common {a = b} {b = g} full p.order m;
  high = record { k = omega (arith, ints, clamps, p.high.k); j = omega (arith, ints, clamps, p.high.j); i = omega (arith, ints, clamps, p.high.i) };
}

-- a box inside of g meets b only where g does
meets_out : (g a b : Corners) → IsWithin g a → meets b g ≡ false → meets a b ≡ false
meets_out g a b w e =
    same_test (meets a b) false
    (λ t. let m = Meet-test {a = a} {b = b} t in
    sym e ∙ meets-from {a = b} {b = g} (record { low = AtMost-trans m.high w.high; high = AtMost-trans w.low m.low }))
    (λ t. let r : false ≡ true = t in absurd (differ r))
  where
    differ : false ≡ true → ⊥
    differ r = cc

-- the cells of what is left of a box
without_cell : (x : IVec) (a b s : Corners) → AtMost b.lo b.hi → Member s (without a b) → Holds s x → Holds a x
without_cell x a b s full m h =
    let some = held-cover x (without a b) (held-from x s (without a b) m h) in
    let e = cover-without x a b full in
    Holds-test (by_tests (holds b x) (holds a x) e some)
  where
    by_tests : (t u : Bool) → cover x (without a b) ≡ cond t 0 (one u) → 0 < cover x (without a b) → u ≡ true
    by_tests true u e some = absurd (omega (arith, e, some))
    by_tests false true e some = refl
    by_tests false false e some = absurd (omega (arith, e, some))

-- the pieces of a box inside of g are boxes inside of g
within_without : (g a b : Corners) → IsBox g → IsWithin g a → AtMost b.lo b.hi → AllWithin g (without a b)
within_without g a b p w full s m = by_test (meets b g) refl
  where
    inside : IsBox s → IsWithin g s
    inside q = within_cells g s q (λ x h. within_has g a x w (without_cell x a b s full m h))

    by_test : (t : Bool) → meets b g ≡ t → IsWithin g s
    by_test true e =
        let c = IsBox-near g b p full (Meet-test {a = b} {b = g} e) in
        inside (IsBox-without a (common b g) w.box c s (subst (λ (l : List Corners). Member s l) (sym (without-common g a b w.box.order w.low w.high)) m))
    by_test false e =
        elim (subst (λ (l : List Corners). Member s l) (without-apart a b (meets_out g a b w e)) m) [
          | inl same ↦ subst (λ (v : Corners). IsWithin g v) (sym same) w
          | inr none ↦ absurd none
        ]

pub within_subtracted : (g b : Corners) (list : List Corners) → IsBox g → AllWithin g list → AtMost b.lo b.hi → AllWithin g (subtracted list b)
within_subtracted g b list p all full s m =
    let r = Member-from_flat_map (λ (a : Corners). without a b) s list m in
    within_without g r.0 b p (all r.0 r.1) full s r.2

pub within_all_subtracted : (g : Corners) (bs list : List Corners) → IsBox g → AllWithin g list → AllFull bs → AllWithin g (all_subtracted list bs)
within_all_subtracted g [] list p all full = all
within_all_subtracted g (b ∷ bs) list p all full =
    within_all_subtracted g bs (subtracted list b) p (within_subtracted g b list p all (full b (inl refl))) (λ c m. full c (inr m))

-- taking away a box, and only its part near the list
flat_map_members : (f h : Corners → List Corners) (list : List Corners) → ((a : Corners) → Member a list → f a ≡ h a) → flat_map f list ≡ flat_map h list
flat_map_members f h [] same = refl
flat_map_members f h (a ∷ list) same =
    ap (λ (v : List Corners). v ++ flat_map f list) (same a (inl refl))
    ∙ ap (λ (v : List Corners). h a ++ v) (flat_map_members f h list (λ b m. same b (inr m)))

alone : (list : List Corners) → flat_map (λ (a : Corners). a ∷ []) list ≡ list
alone [] = refl
alone (a ∷ list) = ap (λ (v : List Corners). a ∷ v) (alone list)

subtracted_common : (g b : Corners) (list : List Corners) → AllWithin g list → subtracted list (common b g) ≡ subtracted list b
subtracted_common g b list all =
    flat_map_members (λ (a : Corners). without a (common b g)) (λ (a : Corners). without a b) list
    (λ a m. let w = all a m in without-common g a b w.box.order w.low w.high)

subtracted_apart : (g b : Corners) (list : List Corners) → AllWithin g list → meets b g ≡ false → subtracted list b ≡ list
subtracted_apart g b list all e =
    flat_map_members (λ (a : Corners). without a b) (λ (a : Corners). a ∷ []) list
    (λ a m. without-apart a b (meets_out g a b (all a m) e))
    ∙ alone list

pub parts_enough : (g : Corners) (bs list : List Corners) → IsBox g → AllWithin g list → AllFull bs
    → all_subtracted list (filter_map (λ b. met b g) bs) ≡ all_subtracted list bs
parts_enough g [] list p all full = refl
parts_enough g (b ∷ bs) list p all full =
    by_test (meets b g) refl
    (parts_enough g bs (subtracted list b) p (within_subtracted g b list p all (full b (inl refl))) (λ c m. full c (inr m)))
  where
    by_test : (t : Bool) → meets b g ≡ t
        → all_subtracted (subtracted list b) (filter_map (λ b. met b g) bs) ≡ all_subtracted (subtracted list b) bs
        → all_subtracted list (cons_option (cond t (Some (common b g)) None) (filter_map (λ b. met b g) bs)) ≡ all_subtracted (subtracted list b) bs
    by_test true e rest =
        ap (λ (l : List Corners). all_subtracted l (filter_map (λ b. met b g) bs)) (subtracted_common g b list all) ∙ rest
    by_test false e rest =
        ap (λ (l : List Corners). all_subtracted l (filter_map (λ b. met b g) bs)) (sym (subtracted_apart g b list all e)) ∙ rest
