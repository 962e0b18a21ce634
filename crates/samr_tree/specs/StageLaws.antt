-- Letters of the two stages go between a rank and its parent, which are two ranks.
use Rattle.std.specs.Prelude.{◌≡◌, ◌≢◌, ℕ, ◌-◌, ◌/◌, ◌<◌, Bool, true, false, cond, nat_eq, nat_lt, Some, None, is_some, IsTrue, refl}
use Rattle.std.proofs.Common.{arith}
use Rattle.std.proofs.lemmas.Bool.{and_parts, ltb-true, eqb-true}
use Rattle.samr_tree.specs.Tree.{tells_up, told_down}
use Rattle.samr_tree.specs.SumUp.{Sums, sum_row}
use Rattle.samr_tree.specs.TellDown.{Tellings, tell_row}

passes : (t : Bool) (n : ℕ) → IsTrue (is_some (cond t (Some n) None)) → t ≡ true
passes true n h = refl
passes false n h = cc

-- a rank that says something is one whose turn it is, and says it to its parent
pub sum_turn : (w : Sums) (from to : ℕ) → IsTrue (is_some (sum_row w from to)) → (tells_up w.ranks w.round from ≡ true) × ((from - 1) / 2 ≡ to)
unfolding sum_row
sum_turn w from to h =
    let both = and_parts (tells_up w.ranks w.round from) (nat_eq ((from - 1) / 2) to) (passes _ (w.number from) h) in
    (both.0, eqb-true ((from - 1) / 2) to both.1)

pub sum_between : (w : Sums) (from to : ℕ) → IsTrue (is_some (sum_row w from to)) → (from < w.ranks) × (to < w.ranks) × (from ≢ to)
sum_between w from to h =
    let turn = sum_turn w from to h in
    let tells = and_parts (nat_lt 0 from) _ turn.0 in
    let above = ltb-true 0 from tells.0 in
    let within = ltb-true from w.ranks (and_parts (nat_lt from w.ranks) _ tells.1).0 in
    (within, omega (arith, turn.1), λ same. omega (arith, turn.1))

-- a rank that is told something is one whose turn it is, and is told by its parent
pub tell_turn : (w : Tellings) (from to : ℕ) → IsTrue (is_some (tell_row w from to)) → (told_down w.ranks w.round to ≡ true) × ((to - 1) / 2 ≡ from)
unfolding tell_row
tell_turn w from to h =
    let both = and_parts (told_down w.ranks w.round to) (nat_eq ((to - 1) / 2) from) (passes _ (w.number from) h) in
    (both.0, eqb-true ((to - 1) / 2) from both.1)

pub tell_between : (w : Tellings) (from to : ℕ) → IsTrue (is_some (tell_row w from to)) → (from < w.ranks) × (to < w.ranks) × (from ≢ to)
tell_between w from to h =
    let turn = tell_turn w from to h in
    let tells = and_parts (nat_lt 0 to) _ turn.0 in
    let above = ltb-true 0 to tells.0 in
    let within = ltb-true to w.ranks (and_parts (nat_lt to w.ranks) _ tells.1).0 in
    (omega (arith, turn.1), within, λ same. omega (arith, turn.1))

-- every letter weighs something
pub heavy : 0 < 1
heavy = omega arith
