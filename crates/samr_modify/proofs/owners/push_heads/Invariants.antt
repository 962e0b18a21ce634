use Rattle.std.proofs.Common.{◌≡◌, ◌++◌, take, map}
use Rattle.samr_modify.proofs.owners.push_heads.Given as goal

abbrev pub invariant-loop-e : goal.invariant-loop-e
invariant-loop-e l = l.out.items ≡ l.fn.out.items ++ map (λ e. e.head.owner) (take l.e-index l.edges)
