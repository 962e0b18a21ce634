-- Letters of the stages go between two different ranks.
use Rattle.std.specs.Prelude.{◌≡◌, ◌≢◌, ℕ, ◌<◌, Bool, true, false, not, cond, nat_eq, nat_lt, Some, None, map, is_some, IsTrue, refl}
use Rattle.std.specs.List.{list_any}
use Rattle.std.proofs.Common.{arith}
use Rattle.std.proofs.lemmas.Bool.{and_parts, ltb-true}
use Rattle.std.proofs.lemmas.Bool.Decides.{nat_tests}
use Rattle.samr_level.specs.Overlaps.{of_rank}
use Rattle.samr_peers.specs.PeerLaws.{peer_between}
use Rattle.samr_cluster.specs.Cluster.{Clustering, near}
use Rattle.samr_cluster.specs.Rounds.{Round, open_of, near_of}
use Rattle.samr_cluster.specs.SomeRows.{some_row}
use Rattle.samr_cluster.specs.DecideRow.{ruling, decide_row}
use Rattle.samr_cluster.specs.ReportRow.{was_told, signs_of, report_row}
use Rattle.samr_cluster.specs.Accepting.{to_owners}
use Rattle.samr_cluster.specs.EdgesRow.{with_boxes_of, edges_row}

pub edges_between : (w : Clustering) (from to : ℕ) → IsTrue (is_some (edges_row w from to)) → (from < w.ranks) × (to < w.ranks) × (from ≢ to)
unfolding edges_row
edges_between w from to h = peer_between w.ranks (to_owners w) (λ from to. of_rank to (with_boxes_of w from)) from to h

passes : {B : Type 0} (t : Bool) (body : B) → IsTrue (is_some (cond t (Some body) None)) → t ≡ true
passes true body h = refl
passes false body h = cc

other : (to from : ℕ) → not (nat_eq to from) ≡ true → from ≢ to
other to from t same = grind (arith, nat_tests, t, same)

some_between : {B : Type 0} (ranks : ℕ) (some : ℕ → ℕ → Bool) (body : ℕ → ℕ → B) (from to : ℕ) → IsTrue (is_some (some_row ranks some body from to)) → (from < ranks) × (to < ranks) × (from ≢ to)
unfolding some_row
some_between ranks some body from to h =
    let first = and_parts (nat_lt from ranks) _ (passes _ (body from to) h) in
    let second = and_parts (nat_lt to ranks) _ first.1 in
    let third = and_parts (not (nat_eq to from)) (some from to) second.1 in
    (ltb-true from ranks first.0, ltb-true to ranks second.0, other to from third.0)

pub decide_between : (x : Round) (from to : ℕ) → IsTrue (is_some (decide_row x from to)) → (from < x.whole.ranks) × (to < x.whole.ranks) × (from ≢ to)
unfolding decide_row
decide_between x from to h =
    some_between x.whole.ranks (λ from to. list_any (λ b. near x.whole to b) (open_of x from)) (λ from to. map (λ b. ruling x.whole b) (near_of x from to)) from to h

pub report_between : (x : Round) (from to : ℕ) → IsTrue (is_some (report_row x from to)) → (from < x.whole.ranks) × (to < x.whole.ranks) × (from ≢ to)
unfolding report_row
report_between x from to h = some_between x.whole.ranks (λ from to. was_told x from to) (λ from to. signs_of x from to) from to h
