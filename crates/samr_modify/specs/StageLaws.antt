-- Letters of a modification go between two different ranks, and each weighs something.
use Rattle.std.specs.Prelude.{◌≡◌, ◌≢◌, ℕ, ◌<◌, Bool, true, false, not, cond, nat_eq, nat_lt, List, Some, None, is_some, IsTrue, refl}
use Rattle.std.proofs.Common.{arith}
use Rattle.std.proofs.lemmas.Bool.{and_parts, ltb-true}
use Rattle.std.proofs.lemmas.Bool.Decides.{nat_tests}
use Rattle.samr_modify.specs.declared.entries.Replaced.{Replaced}
use Rattle.samr_modify.specs.Modify.{Modifying}
use Rattle.samr_modify.specs.Entries.{entries, told_to}
use Rattle.samr_modify.specs.ModifyRow.{addressed, is_among, modify_row}

passes : (t : Bool) (body : List Replaced) → IsTrue (is_some (cond t (Some body) None)) → t ≡ true
passes true body h = refl
passes false body h = cc

other : (to from : ℕ) → not (nat_eq to from) ≡ true → from ≢ to
other to from t same = grind (arith, nat_tests, t, same)

pub modify_between : (w : Modifying) (from to : ℕ) → IsTrue (is_some (modify_row w from to)) → (from < w.ranks) × (to < w.ranks) × (from ≢ to)
unfolding modify_row
modify_between w from to h =
    let first = and_parts (nat_lt from w.ranks) _ (passes _ (told_to to (entries w from)) h) in
    let second = and_parts (nat_lt to w.ranks) _ first.1 in
    let third = and_parts (not (nat_eq to from)) (is_among to (addressed w from)) second.1 in
    (ltb-true from w.ranks first.0, ltb-true to w.ranks second.0, other to from third.0)

pub heavy : 0 < 1
heavy = omega arith
