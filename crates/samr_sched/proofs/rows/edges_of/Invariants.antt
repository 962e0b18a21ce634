use Rattle.std.proofs.Common.{◌≡◌, take, map}
use Rattle.samr_sched.proofs.rows.edges_of.Given as goal

abbrev pub invariant-loop-q : goal.invariant-loop-q
invariant-loop-q l = l.edges.items ≡ map (λ q. q.edge) (take l.q-index l.asked)
