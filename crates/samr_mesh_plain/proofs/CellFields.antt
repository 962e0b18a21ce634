-- Fields that have the cells of a box that pass a test.
use Rattle.std.proofs.Common.{◌≡◌, ◌≤◌, refl, sym, ap, subst, ◌∙◌, arith}
use Rattle.std.proofs.lemmas.Int.{ints}
use Rattle.std.proofs.lemmas.Bool.{and_from, and_parts}
use Rattle.std.proofs.lemmas.List.Elements.{All-filter}
use Rattle.std.specs.Prelude.{Bool, true, false, cond, ◌&&◌, ◌||◌, List, [], ◌∷◌, filter}
use Rattle.std.specs.List.{All, list_any}
use Rattle.samr_box.specs.declared.vector.IVec.{IVec}
use Rattle.samr_box.specs.Vector.{AtMost}
use Rattle.samr_box.specs.Corners.{Corners, Holds, holds}
use Rattle.samr_box.proofs.CellSets.{Holds-test, holds-from}
use Rattle.samr_box.proofs.Members.{All-from_members}
use Rattle.samr_box.proofs.Vectors.{same_cell, AtMost-refl}
use Rattle.samr_bits.specs.Bits.{one}
use Rattle.samr_boxlist.proofs.Covering.{same_test}
use Rattle.samr_find.specs.Cells.{cells_in}
use Rattle.samr_find.proofs.CellLists.{Member-cells, Holds-cells}
use Rattle.samr_rounds.proofs.Lists.{any_member, member_any}
use Rattle.samr_sign.specs.Counts.{tally}
use Rattle.samr_sign.proofs.Tallies.{weigh_le}
use Rattle.samr_mesh_plain.specs.Making.{one_cell}

-- one cell more
pub one_more : (new here old before more : Bool) → new ≡ (here || old) → old ≡ before → more ≡ (before || here) → new ≡ more
one_more new here old before more e f g = e ∙ ap (λ v. here || v) f ∙ swapped here before ∙ sym g
  where
    swapped : (a b : Bool) → (a || b) ≡ (b || a)
    swapped true true = refl
    swapped true false = refl
    swapped false true = refl
    swapped false false = refl

-- a test of what another test leaves
pub any_filter : {X : Type 0} (p t : X → Bool) (xs : List X) → list_any p (filter t xs) ≡ list_any (λ x. t x && p x) xs
any_filter p t [] = refl
any_filter {X = X} p t (x ∷ xs) = by (t x) (any_filter p t xs)
  where
    by : (b : Bool) → list_any p (filter t xs) ≡ list_any (λ x. t x && p x) xs
        → list_any p (cond b (x ∷ filter t xs) (filter t xs)) ≡ ((b && p x) || list_any (λ x. t x && p x) xs)
    by true e = ap (λ v. p x || v) e
    by false e = e

pub same_place : (x y : IVec) → Holds (one_cell x) y → x ≡ y
same_place x y h = same_cell (omega (arith, ints, h.low.k, h.high.k)) (omega (arith, ints, h.low.j, h.high.j)) (omega (arith, ints, h.low.i, h.high.i))

-- the cells of a box that pass a test, as a test
pub picked : (b : Corners) (t : IVec → Bool) (y : IVec) → AtMost b.lo b.hi → list_any (λ x. holds (one_cell x) y) (filter t (cells_in b)) ≡ (holds b y && t y)
picked b t y order =
    any_filter (λ x. holds (one_cell x) y) t (cells_in b)
    ∙ same_test (list_any (λ x. t x && holds (one_cell x) y) (cells_in b)) (holds b y && t y)
    (λ h.
    let r = member_any (λ x. t x && holds (one_cell x) y) (cells_in b) h in
    let both = and_parts (t r.0) (holds (one_cell r.0) y) r.2 in
    let is = same_place r.0 y (Holds-test both.1) in
    and_from (holds b y) (t y) (holds-from (subst (λ v. Holds b v) is (Holds-cells b r.0 order r.1))) (ap t (sym is) ∙ both.0))
    (λ h.
    let both = and_parts (holds b y) (t y) h in
    any_member (λ x. t x && holds (one_cell x) y) y (cells_in b) (Member-cells b y (Holds-test both.0))
    (and_from (t y) (holds (one_cell y) y) both.1 (holds-from (record { low = AtMost-refl y; high = AtMost-refl y }))))

pub all_inside : (b : Corners) (t : IVec → Bool) → AtMost b.lo b.hi → All (λ x. Holds b x) (filter t (cells_in b))
all_inside b t order = All-filter t (λ x. Holds b x) (cells_in b) (All-from_members (λ x. Holds b x) (cells_in b) (λ x m. Holds-cells b x order m))

-- tests that agree in a box count the same there
pub same_tally : (b : Corners) (t u : IVec → Bool) → AtMost b.lo b.hi → ((x : IVec) → Holds b x → t x ≡ u x) → tally t b ≡ tally u b
unfolding tally
same_tally b t u order e =
    let low = weigh_le (λ x. one (t x)) (λ x. one (u x)) b order (λ x h. no_more (t x) (u x) (e x h)) in
    let high = weigh_le (λ x. one (u x)) (λ x. one (t x)) b order (λ x h. no_more (u x) (t x) (sym (e x h))) in
    omega (arith, low, high)
  where
    no_more : (a b : Bool) → a ≡ b → one a ≤ one b
    no_more a b e = omega (arith, ap one e)

-- a part of a test
pub within_box : (b : Corners) (t : IVec → Bool) (f : IVec → Bool) (x : IVec) → ((y : IVec) → f y ≡ (holds b y && t y)) → Holds b x → f x ≡ t x
within_box b t f x e h = e x ∙ ap (λ v. v && t x) (holds-from h)
