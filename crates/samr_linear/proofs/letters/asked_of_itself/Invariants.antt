use Rattle.std.proofs.Common.{◌≡◌, take, filter, nat_eq}
use Rattle.std.specs.List.{flat_map}
use Rattle.samr_linear.proofs.letters.asked_of_itself.Given as goal

abbrev pub invariant-loop-plan : goal.invariant-loop-plan
invariant-loop-plan l = l.requests.items ≡ flat_map (λ b. flat_map (λ f. filter (λ q. nat_eq q.edge.head.owner l.rank) f.asked) b.fields) (take l.plan-index l.boxes)
