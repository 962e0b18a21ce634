-- The ghost widths of a problem, and where the values of ghost cells come from.
use Rattle.std.proofs.Common.{◌≡◌, ℕ, zero, suc, ◌*◌, ◌<◌, ◌≤◌, Bool, true, false, cond, fold, ◌==◌, List, [], ◌∷◌, length, get_or, refl, sym, subst, inl, inr, arith}
use Rattle.std.proofs.lemmas.Bool.{and_parts}
use Rattle.std.proofs.lemmas.Bool.Decides.{nat_tests}
use Rattle.std.proofs.lemmas.Int.{ints}
use Rattle.std.specs.Prelude.{ℤ, pos, ◌+ℤ◌, ◌-ℤ◌, ◌*ℤ◌, ◌≤ℤ◌, ◌<ℤ◌, unsigned_abs, nat_le}
use Rattle.samr_box.specs.declared.vector.IVec.{IVec}
use Rattle.samr_box.specs.Vector.{alike, times, greatest, AtMost, Within, IsRatio}
use Rattle.samr_box.specs.Ratios.{floor, coarse}
use Rattle.samr_box.specs.Space.{wrapped}
use Rattle.samr_box.specs.Lists.{Member}
use Rattle.samr_box.proofs.Floors.{floor-from_mul, mul-from_floor, floor-to_last, last-from_floor}
use Rattle.samr_box.proofs.Products.{mul-plus, mul-minus, mul_le, mul_zero}
use Rattle.samr_box.proofs.Vectors.{AtMost-trans}
use Rattle.samr_level.specs.Refs.{Owned}
use Rattle.samr_level.specs.Regions.{Area, IsCellOf, IsInside}
use Rattle.samr_level.specs.Levels.{IsLevel, IsCellIn, IsNested}
use Rattle.samr_level.proofs.Level0Laws.{cells-level0}
use Rattle.samr_problem.specs.declared.field.Field.{Field}
use Rattle.samr_problem.specs.Faults.{ghost_fits, ghosts_fit, is_nested}
use Rattle.samr_problem.specs.Fields.{Fields, widest, width_of}
use Rattle.samr_problem.specs.Problems.{IsProblem, is_field, is_flat_field}
use Rattle.samr_problem.specs.Values.{axes_within}
use Rattle.std.specs.Ordering.{int_eq}
use Rattle.samr_mesh.specs.Domains.{area_of, level0_of, step_of, area_at, frame_at}
use Rattle.samr_mesh.specs.Grounds.{CanPass}
use Rattle.samr_mesh.specs.Sources.{IsGhostWidth}
use Rattle.samr_mesh.proofs.Grounding.{axes_of, int_is, abs_times, step_is, greatest_left, greatest_right}
use Rattle.samr_mesh.proofs.Regions.{members_pass, has_level0}
use Rattle.samr_mesh.proofs.Scaling.{area_zero, cell_down, wrap_down}

-- the greatest of some widths
fold_more : (fields : List Field) (w : IVec) → AtMost w (fold (λ w f. greatest w f.ghosts) w fields)
fold_more [] w = record { k = omega (arith, ints); j = omega (arith, ints); i = omega (arith, ints) }
fold_more (f ∷ fields) w = AtMost-trans (greatest_left w f.ghosts) (fold_more fields (greatest w f.ghosts))

fold_each : (fields : List Field) (w : IVec) (f : Field) → Member f fields → AtMost f.ghosts (fold (λ w f. greatest w f.ghosts) w fields)
fold_each [] w f m = absurd m
fold_each (e ∷ fields) w f (inl here) =
    subst (λ (v : Field). AtMost v.ghosts (fold (λ w f. greatest w f.ghosts) (greatest w e.ghosts) fields)) (sym here)
    (AtMost-trans (greatest_right w e.ghosts) (fold_more fields (greatest w e.ghosts)))
fold_each (e ∷ fields) w f (inr later) = fold_each fields (greatest w e.ghosts) f later

in_width : (levels : ℕ) (nest buffer : IVec) (fields : List Field) (f : Field) → Member f fields → AtMost f.ghosts (width_of levels nest buffer fields)
unfolding width_of widest
in_width levels nest buffer fields f m = by (levels == 1)
  where
    own : AtMost f.ghosts (fold (λ w f. greatest w f.ghosts) (alike (pos 0)) fields)
    own = fold_each fields (alike (pos 0)) f m

    by : (t : Bool) → AtMost f.ghosts (cond t (fold (λ w f. greatest w f.ghosts) (alike (pos 0)) fields) (greatest (fold (λ w f. greatest w f.ghosts) (alike (pos 0)) fields) (greatest nest buffer)))
    by true = own
    by false = AtMost-trans own (greatest_left _ (greatest nest buffer))

-- the test of a width against the nest width
le_test : (a b : ℕ) → nat_le a b ≡ true → a ≤ b
le_test a b t = grind (arith, nat_tests)

fits_on : (g n r : ℤ) → pos 0 ≤ℤ g → pos 0 ≤ℤ n → pos 1 ≤ℤ r → ghost_fits g n r ≡ true → g ≤ℤ (n *ℤ r)
unfolding ghost_fits
fits_on g n r low nest one t =
    let h = le_test (unsigned_abs g) (unsigned_abs n * unsigned_abs r) t in
    let e = abs_times n r in
    let m = mul_le r (pos 0) n (omega (arith, ints, one)) nest in
    let z = mul_zero r in
    let least : pos 0 ≤ℤ (n *ℤ r) = omega (arith, ints, m, z) in
    let same : unsigned_abs g ≤ unsigned_abs (n *ℤ r) = omega (arith, h, e) in
    by_abs g (n *ℤ r) low least same
  where
    by_abs : (a b : ℤ) → pos 0 ≤ℤ a → pos 0 ≤ℤ b → unsigned_abs a ≤ unsigned_abs b → a ≤ℤ b
    by_abs a b p q h = omega (arith, ints, p, q, h)

fits : (nest g r : IVec) → AtMost (alike (pos 0)) g → AtMost (alike (pos 0)) nest → AtMost (alike (pos 1)) r → ghosts_fit nest g r ≡ true → AtMost g (times nest r)
unfolding ghosts_fit
fits nest g r low nest_low one t =
    let i = and_parts (ghost_fits g.i nest.i r.i) _ t in
    let j = and_parts (ghost_fits g.j nest.j r.j) _ i.1 in
    record {
      k = fits_on g.k nest.k r.k low.k nest_low.k one.k j.1;
      j = fits_on g.j nest.j r.j low.j nest_low.j one.j j.0;
      i = fits_on g.i nest.i r.i low.i nest_low.i one.i i.0;
    }

Member-at : {X : Type 0} (xs : List X) (n : ℕ) (d : X) → n < length xs → Member (get_or xs n d) xs
Member-at [] n d below = absurd (omega (arith, below))
Member-at (x ∷ xs) zero d below = inl refl
Member-at (x ∷ xs) (suc n) d below = inr (Member-at xs n d (omega (arith, below)))

flat_field : (f : Field) → is_flat_field f ≡ true → f.ghosts.k ≡ pos 0
unfolding is_flat_field
flat_field f t = int_is f.ghosts.k (pos 0) (and_parts (int_eq f.ghosts.k (pos 0)) _ t).0

field_range : (dim : ℕ) (f : Field) → is_field dim f ≡ true → axes_within dim (pos 0) (pos 8) f.ghosts ≡ true
unfolding is_field
field_range dim f t = (and_parts (axes_within dim (pos 0) (pos 8) f.ghosts) _ t).0

field_fits : (ratios : List IVec) (nest : IVec) (f : Field) → is_nested ratios nest f ≡ true → (l : ℕ) → l < length ratios → ghosts_fit nest f.ghosts (get_or ratios l (alike (pos 1))) ≡ true
unfolding is_nested
field_fits ratios nest f t l below = members_pass (ghosts_fit nest f.ghosts) ratios t (get_or ratios l (alike (pos 1))) (Member-at ratios l (alike (pos 1)) below)

module _ (p : Fields) (is : IsProblem p) where
  flat_ghost : (f : Field) → Member f p.fields → p.dim ≡ 2 → f.ghosts.k ≡ pos 0
  flat_ghost f m two = flat_field f (members_pass is_flat_field p.fields (is.flat two).fields f m)

  pub nest_low : AtMost (alike (pos 0)) p.nest
  nest_low =
      (axes_of p.dim (pos 0) (pos 1) (pos 8) p.nest (omega (arith, ints)) is.nest
      (λ two. let e = (is.flat two).nest in (omega (arith, ints, e), omega (arith, ints, e)))).low

  pub ghost_width : (f : Field) → Member f p.fields → IsGhostWidth p f.ghosts
  ghost_width f m =
      let range = axes_of p.dim (pos 0) (pos 0) (pos 8) f.ghosts (omega (arith, ints)) (field_range p.dim f (members_pass (is_field p.dim) p.fields is.fields f m))
      (λ two. let e = flat_ghost f m two in (omega (arith, ints, e), omega (arith, ints, e))) in
      record {
        low = range.low;
        few = range.high;
        wide = subst (AtMost f.ghosts) (sym is.width) (in_width p.levels p.nest p.tag_buffer p.fields f m);
        nested = λ l room.
            fits p.nest f.ghosts (step_of p l) range.low nest_low (step_is p is l).low
            (field_fits p.ratio p.nest f (members_pass (is_nested p.ratio p.nest) p.fields is.nested f m) l (omega (arith, room, is.ratios)));
      }

-- a cell within g of another lies under one within n of the one under that
near_on : (z x g n r : ℤ) → pos 1 ≤ℤ r → g ≤ℤ (n *ℤ r) → (z -ℤ g) ≤ℤ x → x ≤ℤ (z +ℤ g) → ((floor z r -ℤ n) ≤ℤ floor x r) × (floor x r ≤ℤ (floor z r +ℤ n))
near_on z x g n r one fit low high =
    let p : pos 0 <ℤ r = omega (arith, ints, one) in
    let a = mul-from_floor z r (floor z r) p (omega (arith, ints)) in
    let b = mul-minus (floor z r) n r in
    let c = last-from_floor z r (floor z r) p (omega (arith, ints)) in
    let d = mul-plus (floor z r) n r in (
      floor-from_mul x r (floor z r -ℤ n) p (omega (arith, ints, a, b, low, fit)),
      floor-to_last x r (floor z r +ℤ n) p (omega (arith, ints, c, d, high, fit)),
    )

pub near_under : (z x g n r : IVec) → IsRatio r → AtMost g (times n r) → Within g z x → Within n (coarse z r) (coarse x r)
near_under z x g n r q fit h =
    let k = near_on z.k x.k g.k n.k r.k q.low.k fit.k h.low.k h.high.k in
    let j = near_on z.j x.j g.j n.j r.j q.low.j fit.j h.low.j h.high.j in
    let i = near_on z.i x.i g.i n.i r.i q.low.i fit.i h.low.i h.high.i in
    record { low = record { k = k.0; j = j.0; i = i.0 }; high = record { k = k.1; j = j.1; i = i.1 } }

pub over_below : (p : Fields) (l ranks : ℕ) (level below : List Owned) (g z x : IVec) → CanPass p l → IsLevel (area_at p (suc l)) ranks level
    → IsNested (area_at p l) (step_of p l) p.nest level below → AtMost (alike (pos 0)) g → AtMost g (times p.nest (step_of p l))
    → IsCellIn level z → Within g z x → IsInside (area_at p (suc l)) x → IsCellIn below (wrapped (frame_at p l) (coarse x (step_of p l)))
over_below p l ranks level below g z x can is nested low fit cell near inside =
    let InDomain : IVec → Type 0 = λ v. IsCellOf (area_at p l) v in
    let home = subst InDomain (wrap_down p l can x) ((cell_down p l can (wrapped (frame_at p (suc l)) x)).0 inside) in
    nested z (coarse x (step_of p l)) cell (near_under z x g p.nest (step_of p l) can.step fit near) home

pub level0_all : (p : Fields) (ranks : ℕ) (x : IVec) → IsProblem p → IsCellOf (area_at p 0) x → IsCellIn (level0_of p ranks) x
level0_all p ranks x is home =
    let begun = has_level0 p is in
    (cells-level0 (area_of p) p.block ranks begun.area begun.blocks x).1 (subst (λ (a : Area). IsCellOf a x) (sym (area_zero p)) home)
