-- Letters of the three stages go between two different ranks, and each weighs something.
use Rattle.std.specs.Prelude.{◌≡◌, ◌≢◌, ℕ, ◌-◌, ◌/◌, ◌<◌, Bool, true, false, not, cond, ◌&&◌, nat_eq, nat_lt, List, Option, Some, None, is_some, IsTrue, refl}
use Rattle.std.proofs.Common.{arith}
use Rattle.std.proofs.lemmas.Bool.{and_parts, ltb-true, eqb-true}
use Rattle.std.proofs.lemmas.Bool.Decides.{nat_tests}
use Rattle.samr_tree.specs.Tree.{tells_up, told_down}
use Rattle.samr_load.specs.Ascent.{up}
use Rattle.samr_load.specs.Descent.{got}
use Rattle.samr_balance.specs.Rounds.{Round}
use Rattle.samr_balance.specs.WayUp.{gift, up_row}
use Rattle.samr_balance.specs.WayDown.{is_given, down_row}
use Rattle.samr_balance.specs.Home.{Homes, pieces_in}
use Rattle.samr_balance.specs.HomeRow.{Cutting, told_of, weight, line_of, home_row}

pub passes : {B : Type 0} (t : Bool) (body : B) → IsTrue (is_some (cond t (Some body) None)) → t ≡ true
passes true body h = refl
passes false body h = cc

-- a rank whose turn it is
pub tells_inside : (ranks round rank : ℕ) → tells_up ranks round rank ≡ true → (0 < rank) × (rank < ranks)
tells_inside ranks round rank turn =
    let tells = and_parts (nat_lt 0 rank) _ turn in
    (ltb-true 0 rank tells.0, ltb-true rank ranks (and_parts (nat_lt rank ranks) _ tells.1).0)

pub told_inside : (ranks round rank : ℕ) → told_down ranks round rank ≡ true → (0 < rank) × (rank < ranks)
told_inside ranks round rank turn =
    let tells = and_parts (nat_lt 0 rank) _ turn in
    (ltb-true 0 rank tells.0, ltb-true rank ranks (and_parts (nat_lt rank ranks) _ tells.1).0)

pub given_inside : (w : Round) (rank : ℕ) → is_given w rank ≡ true → (0 < rank) × (rank < w.balancing.ranks)
given_inside w rank turn =
    told_inside w.balancing.ranks w.round rank (and_parts (told_down w.balancing.ranks w.round rank) (nat_lt 0 (up w.balancing rank).need) turn).0

pub up_between : (w : Round) (from to : ℕ) → IsTrue (is_some (up_row w from to)) → (from < w.balancing.ranks) × (to < w.balancing.ranks) × (from ≢ to)
unfolding up_row
up_between w from to h =
    let both = and_parts (tells_up w.balancing.ranks w.round from) (nat_eq ((from - 1) / 2) to) (passes _ (gift w.balancing from) h) in
    let inside = tells_inside w.balancing.ranks w.round from both.0 in
    let above = eqb-true ((from - 1) / 2) to both.1 in
    (inside.1, omega (arith, above, inside), λ same. omega (arith, above, inside, same))

pub down_between : (w : Round) (from to : ℕ) → IsTrue (is_some (down_row w from to)) → (from < w.balancing.ranks) × (to < w.balancing.ranks) × (from ≢ to)
unfolding down_row
down_between w from to h =
    let both = and_parts (is_given w to) (nat_eq ((to - 1) / 2) from) (passes _ (got w.balancing to) h) in
    let inside = given_inside w to both.0 in
    let above = eqb-true ((to - 1) / 2) from both.1 in
    (omega (arith, above, inside), inside.1, λ same. omega (arith, above, inside, same))

pub heavy : 0 < 1
heavy = omega arith

-- of what passes two tests
pub within_both : {B : Type 0} (t : Bool) (o : Option B) → IsTrue (is_some (cond t o None)) → (t ≡ true) × IsTrue (is_some o)
within_both true o h = (refl, h)
within_both false o h = cc

some_is : {B : Type 0} (t : Bool) (x y : B) → cond t (Some x) None ≡ Some y → (t ≡ true) × (x ≡ y)
some_is true x y h = (refl, cc)
some_is false x y h = cc

both_some_is : {B : Type 0} (t : Bool) (o : Option B) (y : B) → cond t o None ≡ Some y → o ≡ Some y
both_some_is true o y h = h
both_some_is false o y h = cc

other : (from to : ℕ) → not (nat_eq from to) ≡ true → from ≢ to
other from to t same = grind (arith, nat_tests, t, same)

pub home_between : (w : Homes) (from to : ℕ) → IsTrue (is_some (home_row w from to)) → (from < w.ranks) × (to < w.ranks) × (from ≢ to)
unfolding home_row line_of
home_between w from to h =
    let outer = within_both (nat_lt from w.ranks && nat_lt to w.ranks) (line_of (pieces_in w from) from to) h in
    let inside = and_parts (nat_lt from w.ranks) (nat_lt to w.ranks) outer.0 in
    let t = passes (not (nat_eq from to) && nat_lt 0 (weight (told_of to (pieces_in w from)))) (told_of to (pieces_in w from)) outer.1 in
    (ltb-true from w.ranks inside.0, ltb-true to w.ranks inside.1, other from to (and_parts (not (nat_eq from to)) _ t).0)

pub home_positive : (w : Homes) (from to : ℕ) (body : List Cutting) → home_row w from to ≡ Some body → 0 < weight body
unfolding home_row line_of
home_positive w from to body h =
    let line = both_some_is (nat_lt from w.ranks && nat_lt to w.ranks) (line_of (pieces_in w from) from to) body h in
    let told = some_is (not (nat_eq from to) && nat_lt 0 (weight (told_of to (pieces_in w from)))) (told_of to (pieces_in w from)) body line in
    let test = (and_parts (not (nat_eq from to)) (nat_lt 0 (weight (told_of to (pieces_in w from)))) told.0).1 in
    let Heavy : List Cutting → Type 0 = λ l. nat_lt 0 (weight l) ≡ true in
    ltb-true 0 (weight body) (subst_heavy _ body told.1 test)
  where
    subst_heavy : (x y : List Cutting) → x ≡ y → nat_lt 0 (weight x) ≡ true → nat_lt 0 (weight y) ≡ true
    subst_heavy x y e t = rw e at t
