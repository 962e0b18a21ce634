-- The same clusters found round by round, and what a rank is told of each round.
use Rattle.std.specs.Prelude.{ℕ, zero, suc, ◌%◌, nat_eq, Bool, List, map, filter}
use Rattle.std.specs.List.{flat_map, enumerate_from}
use Rattle.samr_box.specs.declared.vector.IVec.{IVec}
use Rattle.samr_box.specs.Corners.{Corners}
use Rattle.samr_sign.specs.declared.rule.CutRule.{CutRule}
use Rattle.samr_rounds.specs.Sorted.{sorted, corner_less}
use Rattle.samr_rounds.specs.Clusters.{accepted, parts, decided}

-- the parts of some nodes, in corner order
unfoldable pub below : (IVec → Bool) → CutRule → List Corners → List Corners
below t rule nodes = sorted corner_less (flat_map (λ b. parts (decided t rule b)) nodes)

-- the boxes accepted of some nodes
unfoldable pub accepted_of : (IVec → Bool) → CutRule → List Corners → List Corners
accepted_of t rule nodes = flat_map (λ b. accepted (decided t rule b)) nodes

-- the nodes that are open in a round: the roots, then the parts of those of the round before, in corner order
unfoldable pub opened : (IVec → Bool) → CutRule → List Corners → ℕ → List Corners
opened t rule roots zero = roots
opened t rule roots (suc q) = below t rule (opened t rule roots q)

-- the boxes accepted in a round
unfoldable pub taken : (IVec → Bool) → CutRule → List Corners → ℕ → List Corners
taken t rule roots q = accepted_of t rule (opened t rule roots q)

-- the nodes that a rank is told in a round: the roots, then the parts of those of the round before that it is near, in corner order
unfoldable pub told : (Corners → Bool) → (IVec → Bool) → CutRule → List Corners → ℕ → List Corners
told near t rule roots zero = roots
told near t rule roots (suc q) = below t rule (filter near (told near t rule roots q))

-- the roots that a rank directs: root number n is directed by rank n modulo the ranks
unfoldable pub directed : ℕ → ℕ → List Corners → List Corners
directed ranks director roots = map (λ e. e.1) (filter (λ e. nat_eq (e.0 % ranks) director) (enumerate_from 0 roots))
