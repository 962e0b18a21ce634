use Rattle.std.proofs.Common.{◌≡◌, ◌++◌, take, map}
use Rattle.samr_modify.proofs.owners.push_olds.Given as goal

abbrev pub invariant-loop-p : goal.invariant-loop-p
invariant-loop-p l = l.out.items ≡ l.fn.out.items ++ map (λ p. p.old_owner) (take l.p-index l.news)
