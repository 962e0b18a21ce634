-- Letters of the bridge go between two different ranks, and each weighs something.
use Rattle.std.specs.Prelude.{◌≡◌, ◌≢◌, ℕ, ◌<◌, Bool, true, false, not, cond, nat_eq, nat_lt, List, Some, None, is_some, IsTrue, refl}
use Rattle.std.proofs.Common.{arith}
use Rattle.std.proofs.lemmas.Bool.{and_parts, ltb-true}
use Rattle.std.proofs.lemmas.Bool.Decides.{nat_tests}
use Rattle.samr_level.specs.Refs.{Link}
use Rattle.samr_bridge.specs.Bridge.{Bridging}
use Rattle.samr_bridge.specs.Found.{found}
use Rattle.samr_bridge.specs.BridgeRow.{from_centre, owns_head, about, bridge_row}

passes : (t : Bool) (body : List Link) → IsTrue (is_some (cond t (Some body) None)) → t ≡ true
passes true body h = refl
passes false body h = cc

other : (to from : ℕ) → not (nat_eq to from) ≡ true → from ≢ to
other to from t same = grind (arith, nat_tests, t, same)

pub bridge_between : (w : Bridging) (from to : ℕ) → IsTrue (is_some (bridge_row w from to)) → (from < w.ranks) × (to < w.ranks) × (from ≢ to)
unfolding bridge_row
bridge_between w from to h =
    let first = and_parts (nat_lt from w.ranks) _ (passes _ (about to (found w from)) h) in
    let second = and_parts (nat_lt to w.ranks) _ first.1 in
    let third = and_parts (not (nat_eq to from)) (owns_head to (from_centre w from)) second.1 in
    (ltb-true from w.ranks first.0, ltb-true to w.ranks second.0, other to from third.0)

pub heavy : 0 < 1
heavy = omega arith
