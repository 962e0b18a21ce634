use Rattle.std.proofs.Common.{◌≡◌, ◌++◌, take, filter, nat_eq}
use Rattle.std.specs.List.{flat_map}
use Rattle.samr_sched.proofs.asking.push_plans.Given as goal

abbrev pub invariant-loop-p : goal.invariant-loop-p
invariant-loop-p l = l.out.items ≡ l.fn.out.items ++ flat_map (λ p. filter (λ q. nat_eq q.edge.head.owner l.to) (flat_map (λ f. f.asked) p.fields)) (take l.p-index l.plans)
