use Rattle.std.proofs.Common.{◌≡◌, ◌++◌, take, filter, nat_eq}
use Rattle.std.specs.List.{flat_map}
use Rattle.samr_sched.proofs.asking.push_fields.Given as goal

abbrev pub invariant-loop-f : goal.invariant-loop-f
invariant-loop-f l = l.out.items ≡ l.fn.out.items ++ flat_map (λ f. filter (λ q. nat_eq q.edge.head.owner l.to) f.asked) (take l.f-index l.fields)
