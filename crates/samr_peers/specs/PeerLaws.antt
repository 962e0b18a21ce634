-- Letters of a peer row go between two different ranks, and each weighs something.
use Rattle.std.specs.Prelude.{◌≡◌, ◌≢◌, ℕ, ◌<◌, Bool, true, false, not, cond, nat_eq, nat_lt, List, Some, None, is_some, IsTrue, refl}
use Rattle.std.proofs.Common.{arith}
use Rattle.std.proofs.lemmas.Bool.{and_parts, ltb-true}
use Rattle.std.proofs.lemmas.Bool.Decides.{nat_tests}
use Rattle.samr_level.specs.Refs.{Link}
use Rattle.samr_peers.specs.Peers.{owns_head, peer_row}

passes : {B : Type 0} (t : Bool) (body : B) → IsTrue (is_some (cond t (Some body) None)) → t ≡ true
passes true body h = refl
passes false body h = cc

other : (to from : ℕ) → not (nat_eq to from) ≡ true → from ≢ to
other to from t same = grind (arith, nat_tests, t, same)

pub peer_between : {B : Type 0} (ranks : ℕ) (edges : ℕ → List Link) (body : ℕ → ℕ → B) (from to : ℕ)
    → IsTrue (is_some (peer_row ranks edges body from to)) → (from < ranks) × (to < ranks) × (from ≢ to)
unfolding peer_row
peer_between ranks edges body from to h =
    let first = and_parts (nat_lt from ranks) _ (passes _ (body from to) h) in
    let second = and_parts (nat_lt to ranks) _ first.1 in
    let third = and_parts (not (nat_eq to from)) (owns_head to (edges from)) second.1 in
    (ltb-true from ranks first.0, ltb-true to ranks second.0, other to from third.0)

pub heavy : 0 < 1
heavy = omega arith
