-- What lies about the boxes of a level, wrapped round periodic borders; and that a level that has it all is one that the other nests in.
use Rattle.std.proofs.Common.{◌≡◌, refl, sym, ap, subst, inl, inr, arith}
use Rattle.std.proofs.lemmas.Int.{ints}
use Rattle.std.proofs.lemmas.Float.{T_from_true}
use Rattle.std.specs.Prelude.{Bool, true, false, cond, T, List, [], ◌∷◌, map, Some, None, if◌then◌else◌, int_lt, not, ◌⊎◌, ℤ, pos, ◌+ℤ◌, ◌-ℤ◌, ◌*ℤ◌, ◌≤ℤ◌, ◌<ℤ◌}
use Rattle.std.specs.Int.{int_rem_euclid}
use Rattle.std.specs.Int.Signed.{lt_z_yes, lt_z_no}
use Rattle.std.specs.List.{flat_map, filter_map}
use Rattle.samr_box.specs.declared.vector.Axis.{Axis}
use Rattle.samr_box.specs.declared.vector.Axis.TheVariants.{I, J, K}
use Rattle.samr_box.specs.declared.vector.IVec.{IVec}
use Rattle.samr_box.specs.Vector.{AtMost, IsRatio, alike, at, put}
use Rattle.samr_box.specs.Corners.{Corners, Holds, met, common, grown}
use Rattle.samr_box.specs.Ratios.{coarse, coarsened}
use Rattle.samr_box.specs.Space.{Space, IsSpace, flag, wrapped, wrapped_on}
use Rattle.samr_box.specs.Lists.{Member}
use Rattle.samr_box.proofs.CellSets.{Holds-common, Holds-coarsened, Holds-grown, coarse-AtMost, meets-from, Meet-cell}
use Rattle.samr_box.proofs.Members.{Member-flat_map, Member-filter_map, Member-from_map}
use Rattle.samr_box.proofs.Products.{mul-plus, mul_one}
use Rattle.samr_box.proofs.Wraps.{IsRemainder-rem}
use Rattle.samr_border.proofs.Remainders.{rem-is}
use Rattle.samr_level.specs.Refs.{Owned}
use Rattle.samr_level.specs.Regions.{Area, IsArea, IsInside, boxes_of}
use Rattle.samr_level.specs.Levels.{IsNested}
use Rattle.samr_level.proofs.Domains.{member-held}
use Rattle.samr_mesh.proofs.Regions.{members_pass}
use Rattle.samr_nest.proofs.NearParts.{AllFull}
use Rattle.samr_verify.specs.MeshFaults.{covered, folded_by, folded_on, wrapped_boxes, wrapped_parts, nests_in, nests}
use Rattle.samr_verify.proofs.BoxLaws.{covered_is}

-- by numbers
abbrev ranged : Axis → Corners → ℤ → ℤ → Corners
ranged axis b lo hi = record { lo = put axis b.lo lo; hi = put axis b.hi hi }

abbrev folded_at : Axis → Corners → ℤ → ℤ → ℤ → List Corners
folded_at axis b n lo hi =
    if int_lt (hi -ℤ lo) (n -ℤ pos 1) then
    (if int_lt (int_rem_euclid hi n) (int_rem_euclid lo n)
    then ranged axis b (pos 0) (int_rem_euclid hi n) ∷ ranged axis b (int_rem_euclid lo n) (n -ℤ pos 1) ∷ []
    else ranged axis b (int_rem_euclid lo n) (int_rem_euclid hi n) ∷ [])
    else ranged axis b (pos 0) (n -ℤ pos 1) ∷ []

-- a number further on has the remainder as much further on, or round the border
pub record IsOn (n lo e : ℤ) : Type 0 where
  pub value : int_rem_euclid (lo +ℤ e) n ≡ (int_rem_euclid lo n +ℤ e)
  pub below : (int_rem_euclid lo n +ℤ e) <ℤ n

pub record IsRound (n lo e : ℤ) : Type 0 where
  pub value : int_rem_euclid (lo +ℤ e) n ≡ ((int_rem_euclid lo n +ℤ e) -ℤ n)
  pub above : n ≤ℤ (int_rem_euclid lo n +ℤ e)

order_by : (a b : ℤ) (t : Bool) → int_lt a b ≡ t → (a <ℤ b) ⊎ (b ≤ℤ a)
order_by a b true e = inl (lt_z_yes {a = a} {b = b} (T_from_true (int_lt a b) e))
order_by a b false e = inr (lt_z_no {a = a} {b = b} (subst (λ (t : Bool). T (not t)) (sym e) tt))

order_of : (a b : ℤ) → (a <ℤ b) ⊎ (b ≤ℤ a)
order_of a b = order_by a b (int_lt a b) refl

is_below : (a b : ℤ) → int_lt a b ≡ true → a <ℤ b
is_below a b e = lt_z_yes {a = a} {b = b} (T_from_true (int_lt a b) e)

not_below : (a b : ℤ) → int_lt a b ≡ false → b ≤ℤ a
not_below a b e = lt_z_no {a = a} {b = b} (subst (λ (t : Bool). T (not t)) (sym e) tt)

one_more : (q n : ℤ) → ((q +ℤ pos 1) *ℤ n) ≡ ((q *ℤ n) +ℤ n)
one_more q n = let e = mul-plus q (pos 1) n in let o = mul_one n in omega (arith, ints, e, o)

further : (n lo e : ℤ) → pos 1 ≤ℤ n → pos 0 ≤ℤ e → e <ℤ n → IsOn n lo e ⊎ IsRound n lo e
further n lo e some low high =
    let p : pos 0 <ℤ n = omega (arith, ints, some) in
    let r = IsRemainder-rem n lo p in
    let a = int_rem_euclid lo n in
    let a_low : pos 0 ≤ℤ a = r.low in
    let a_high : a <ℤ n = r.high in
    let apart : (a +ℤ (r.lengths *ℤ n)) ≡ lo = r.apart in
    elim (order_of (a +ℤ e) n) [
      | inl below ↦ inl (record {
        value = rem-is n (lo +ℤ e) (a +ℤ e) p (record { low = omega (arith, ints, a_low, low); high = below; lengths = r.lengths; apart = omega (arith, ints, apart) });
        below = below;
      })
      | inr above ↦
          let more : ((r.lengths +ℤ pos 1) *ℤ n) ≡ ((r.lengths *ℤ n) +ℤ n) = one_more r.lengths n in
          inr (record {
            value = rem-is n (lo +ℤ e) ((a +ℤ e) -ℤ n) p
                (record { low = omega (arith, ints, above); high = omega (arith, ints, a_high, high); lengths = r.lengths +ℤ pos 1; apart = omega (arith, ints, apart, more) });
            above = above;
          })
    ]

range_holds : (axis : Axis) (b : Corners) (y : IVec) (lo hi r : ℤ) → Holds b y → lo ≤ℤ r → r ≤ℤ hi → Holds (ranged axis b lo hi) (put axis y r)
range_holds I b y lo hi r h f g = record { low = record { k = h.low.k; j = h.low.j; i = f }; high = record { k = h.high.k; j = h.high.j; i = g } }
range_holds J b y lo hi r h f g = record { low = record { k = h.low.k; j = f; i = h.low.i }; high = record { k = h.high.k; j = g; i = h.high.i } }
range_holds K b y lo hi r h f g = record { low = record { k = f; j = h.low.j; i = h.low.i }; high = record { k = g; j = h.high.j; i = h.high.i } }

-- some box of a list has the cell
abbrev IsIn : List Corners → IVec → Type 0
IsIn list x = (w : Corners) × Member w list × Holds w x

module _ (axis : Axis) (b : Corners) (y : IVec) (n lo hi z : ℤ) (h : Holds b y) (some : pos 1 ≤ℤ n) (low : lo ≤ℤ z) (high : z ≤ℤ hi) where
  p : pos 0 <ℤ n
  p = omega (arith, ints, some)

  one_range : (from to : ℤ) → from ≤ℤ int_rem_euclid z n → int_rem_euclid z n ≤ℤ to → IsIn (ranged axis b from to ∷ []) (put axis y (int_rem_euclid z n))
  one_range from to f g = (ranged axis b from to, inl refl, range_holds axis b y from to (int_rem_euclid z n) h f g)

  two_ranges : (a c d e : ℤ) → ((a ≤ℤ int_rem_euclid z n) × (int_rem_euclid z n ≤ℤ c)) ⊎ ((d ≤ℤ int_rem_euclid z n) × (int_rem_euclid z n ≤ℤ e))
      → IsIn (ranged axis b a c ∷ ranged axis b d e ∷ []) (put axis y (int_rem_euclid z n))
  two_ranges a c d e (inl f) = (ranged axis b a c, inl refl, range_holds axis b y a c (int_rem_euclid z n) h f.0 f.1)
  two_ranges a c d e (inr f) = (ranged axis b d e, inr (inl refl), range_holds axis b y d e (int_rem_euclid z n) h f.0 f.1)

  whole_range : (pos 0 ≤ℤ int_rem_euclid z n) × (int_rem_euclid z n ≤ℤ (n -ℤ pos 1))
  whole_range = let r = IsRemainder-rem n z p in let l : pos 0 ≤ℤ int_rem_euclid z n = r.low in let g : int_rem_euclid z n <ℤ n = r.high in (l, omega (arith, ints, g))

  -- in fewer planes than the domain has
  narrow : (hi -ℤ lo) <ℤ (n -ℤ pos 1) → (t : Bool) → int_lt (int_rem_euclid hi n) (int_rem_euclid lo n) ≡ t
      → IsIn (if t then ranged axis b (pos 0) (int_rem_euclid hi n) ∷ ranged axis b (int_rem_euclid lo n) (n -ℤ pos 1) ∷ []
      else ranged axis b (int_rem_euclid lo n) (int_rem_euclid hi n) ∷ [])
      (put axis y (int_rem_euclid z n))
  narrow few t test =
      let e : ℤ = z -ℤ lo in
      let f : ℤ = hi -ℤ lo in
      let e_is : (lo +ℤ e) ≡ z = omega (arith, ints) in
      let f_is : (lo +ℤ f) ≡ hi = omega (arith, ints) in
      let mine : IsOn n lo e ⊎ IsRound n lo e = further n lo e some (omega (arith, ints, low)) (omega (arith, ints, high, few)) in
      let last : IsOn n lo f ⊎ IsRound n lo f = further n lo f some (omega (arith, ints, low, high)) (omega (arith, ints, few)) in
      let whole = whole_range in
      by_cases t test e f e_is f_is few mine last
    where
      by_cases : (t : Bool) → int_lt (int_rem_euclid hi n) (int_rem_euclid lo n) ≡ t → (e f : ℤ) → (lo +ℤ e) ≡ z → (lo +ℤ f) ≡ hi → (hi -ℤ lo) <ℤ (n -ℤ pos 1)
          → IsOn n lo e ⊎ IsRound n lo e → IsOn n lo f ⊎ IsRound n lo f
          → IsIn (if t then ranged axis b (pos 0) (int_rem_euclid hi n) ∷ ranged axis b (int_rem_euclid lo n) (n -ℤ pos 1) ∷ []
          else ranged axis b (int_rem_euclid lo n) (int_rem_euclid hi n) ∷ [])
          (put axis y (int_rem_euclid z n))
      by_cases true test e f e_is f_is few (inl on) last =
          let v : int_rem_euclid z n ≡ (int_rem_euclid lo n +ℤ e) = subst (λ (x : ℤ). int_rem_euclid x n ≡ (int_rem_euclid lo n +ℤ e)) e_is on.value in
          let w = whole_range in
          two_ranges (pos 0) (int_rem_euclid hi n) (int_rem_euclid lo n) (n -ℤ pos 1) (inr (omega (arith, ints, v, low, e_is), w.1))
      by_cases true test e f e_is f_is few (inr round) last =
          let v : int_rem_euclid z n ≡ ((int_rem_euclid lo n +ℤ e) -ℤ n) = subst (λ (x : ℤ). int_rem_euclid x n ≡ ((int_rem_euclid lo n +ℤ e) -ℤ n)) e_is round.value in
          let w = whole_range in
          two_ranges (pos 0) (int_rem_euclid hi n) (int_rem_euclid lo n) (n -ℤ pos 1) (inl (w.0, up_to e f e_is f_is v last))
        where
          up_to : (e f : ℤ) → (lo +ℤ e) ≡ z → (lo +ℤ f) ≡ hi → int_rem_euclid z n ≡ ((int_rem_euclid lo n +ℤ e) -ℤ n) → IsOn n lo f ⊎ IsRound n lo f → int_rem_euclid z n ≤ℤ int_rem_euclid hi n
          up_to e f e_is f_is v (inl on) =
              let u : int_rem_euclid hi n ≡ (int_rem_euclid lo n +ℤ f) = subst (λ (x : ℤ). int_rem_euclid x n ≡ (int_rem_euclid lo n +ℤ f)) f_is on.value in
              omega (arith, ints, u, v, e_is, f_is, high, some)
          up_to e f e_is f_is v (inr round) =
              let u : int_rem_euclid hi n ≡ ((int_rem_euclid lo n +ℤ f) -ℤ n) = subst (λ (x : ℤ). int_rem_euclid x n ≡ ((int_rem_euclid lo n +ℤ f) -ℤ n)) f_is round.value in
              omega (arith, ints, u, v, e_is, f_is, high, some)
      by_cases false test e f e_is f_is few mine (inr round) =
          let u : int_rem_euclid hi n ≡ ((int_rem_euclid lo n +ℤ f) -ℤ n) = subst (λ (x : ℤ). int_rem_euclid x n ≡ ((int_rem_euclid lo n +ℤ f) -ℤ n)) f_is round.value in
          let le = not_below (int_rem_euclid hi n) (int_rem_euclid lo n) test in
          absurd (omega (arith, ints, u, le, few, f_is))
      by_cases false test e f e_is f_is few (inl on) (inl last) =
          let v : int_rem_euclid z n ≡ (int_rem_euclid lo n +ℤ e) = subst (λ (x : ℤ). int_rem_euclid x n ≡ (int_rem_euclid lo n +ℤ e)) e_is on.value in
          let u : int_rem_euclid hi n ≡ (int_rem_euclid lo n +ℤ f) = subst (λ (x : ℤ). int_rem_euclid x n ≡ (int_rem_euclid lo n +ℤ f)) f_is last.value in
          one_range (int_rem_euclid lo n) (int_rem_euclid hi n) (omega (arith, ints, v, low, e_is)) (omega (arith, ints, v, u, high, e_is, f_is))
      by_cases false test e f e_is f_is few (inr round) (inl last) =
          let above = round.above in
          let below = last.below in
          absurd (omega (arith, ints, above, below, e_is, f_is, high))

  pub folded_has : IsIn (folded_at axis b n lo hi) (put axis y (int_rem_euclid z n))
  folded_has = by_test (int_lt (hi -ℤ lo) (n -ℤ pos 1)) refl
    where
      by_test : (t : Bool) → int_lt (hi -ℤ lo) (n -ℤ pos 1) ≡ t
          → IsIn (if t then (if int_lt (int_rem_euclid hi n) (int_rem_euclid lo n)
          then ranged axis b (pos 0) (int_rem_euclid hi n) ∷ ranged axis b (int_rem_euclid lo n) (n -ℤ pos 1) ∷ []
          else ranged axis b (int_rem_euclid lo n) (int_rem_euclid hi n) ∷ [])
          else ranged axis b (pos 0) (n -ℤ pos 1) ∷ [])
          (put axis y (int_rem_euclid z n))
      by_test true e = narrow (is_below (hi -ℤ lo) (n -ℤ pos 1) e) (int_lt (int_rem_euclid hi n) (int_rem_euclid lo n)) refl
      by_test false e = let w = whole_range in one_range (pos 0) (n -ℤ pos 1) w.0 w.1

put_same : (axis : Axis) (y : IVec) → put axis y (at axis y) ≡ y
put_same I y = refl
put_same J y = refl
put_same K y = refl

by_flag : (axis : Axis) (size : IVec) (b : Corners) (y : IVec) (t : Bool) → IsIn (folded_by axis size b) (put axis y (int_rem_euclid (at axis y) (at axis size))) → Holds b y
    → IsIn (if t then folded_by axis size b else b ∷ []) (put axis y (wrapped_on t (at axis size) (at axis y)))
by_flag axis size b y true found h = found
by_flag axis size b y false found h = (b, inl refl, subst (λ v. Holds b v) (sym (put_same axis y)) h)

on_axis : (axis : Axis) (d : Space) (b : Corners) (y : IVec) → IsSpace d → Holds b y
    → IsIn (folded_on axis d b) (put axis y (wrapped_on (flag axis d.periodic) (at axis d.size) (at axis y)))
on_axis I d b y is h = by_flag I d.size b y d.periodic.i (folded_has I b y d.size.i b.lo.i b.hi.i y.i h is.low.i h.low.i h.high.i) h
on_axis J d b y is h = by_flag J d.size b y d.periodic.j (folded_has J b y d.size.j b.lo.j b.hi.j y.j h is.low.j h.low.j h.high.j) h
on_axis K d b y is h = by_flag K d.size b y d.periodic.k (folded_has K b y d.size.k b.lo.k b.hi.k y.k h is.low.k h.low.k h.high.k) h

-- a cell of a box, wrapped, lies in one of the wrapped boxes
pub wrapped_has : (d : Space) (b : Corners) (y : IVec) → IsSpace d → Holds b y → IsIn (wrapped_boxes d b) (wrapped d y)
wrapped_has d b y is h =
    let i = on_axis I d b y is h in
    let y1 : IVec = put I y (wrapped_on d.periodic.i d.size.i y.i) in
    let j = on_axis J d i.0 y1 is i.2 in
    let y2 : IVec = put J y1 (wrapped_on d.periodic.j d.size.j y.j) in
    let k = on_axis K d j.0 y2 is j.2 in
    (k.0, Member-flat_map (folded_on K d) k.0 j.0 (flat_map (folded_on J d) (folded_on I d b)) (Member-flat_map (folded_on J d) j.0 i.0 (folded_on I d b) i.1 j.1) k.1, k.2)

met_is : (p w : Corners) (z : IVec) → Holds p z → Holds w z → met p w ≡ Some (common p w)
met_is p w z f g = ap (λ (t : Bool). cond t (Some (common p w)) None) (meets-from (Meet-cell {a = p} {b = w} {x = z} f g))

pub parts_have : (area : Area) (b : Corners) (y : IVec) → IsArea area → Holds b y → IsInside area y → IsIn (wrapped_parts area b) (wrapped area.frame y)
parts_have area b y is h (p, m, inside) =
    let z = wrapped area.frame y in
    let w = wrapped_has area.frame b y is.frame h in (
      common p w.0,
      Member-flat_map (λ (v : Corners). filter_map (λ (q : Corners). met q v) (boxes_of area)) (common p w.0) w.0 (wrapped_boxes area.frame b) w.1
          (Member-filter_map (λ (q : Corners). met q w.0) (common p w.0) p (boxes_of area) m (met_is p w.0 z inside w.2)),
      (Holds-common p w.0 z).1 (inside, w.2),
    )

-- the test tells nesting
pub nested_is : (area : Area) (step nest : IVec) (boxes below : List Owned) → IsArea area → IsRatio step → AtMost (alike (pos 0)) nest
    → ((b : Owned) → Member b boxes → AtMost b.bx.lo b.bx.hi) → AllFull (map (λ a. a.bx) below) → nests area step nest boxes below ≡ true
    → IsNested area step nest boxes below
nested_is area step nest boxes below is ratio some full below_full t x y (b, m, h) near inside =
    let c : Corners = coarsened b.bx step in
    let c_full : AtMost c.lo c.hi = coarse-AtMost ratio (full b m) in
    let in_c : Holds c (coarse x step) = (Holds-coarsened b.bx step (full b m) ratio (coarse x step)).1 (x, h, refl) in
    let in_grown : Holds (grown c nest) y = (Holds-grown c nest c_full some y).1 (coarse x step, in_c, near) in
    let all = members_pass (nests_in area step nest (map (λ a. a.bx) below)) boxes t b m in
    let w = parts_have area (grown c nest) y is in_grown inside in
    let one = members_pass (λ v. covered (map (λ a. a.bx) below) v) (wrapped_parts area (grown c nest)) all w.0 w.1 in
    let found = member-held (wrapped area.frame y) (map (λ a. a.bx) below) (covered_is (wrapped area.frame y) (map (λ a. a.bx) below) w.0 below_full one w.2) in
    let home = Member-from_map (λ (a : Owned). a.bx) found.0 below found.1 in
    (home.0, home.1, subst (λ v. Holds v (wrapped area.frame y)) home.2 found.2)
