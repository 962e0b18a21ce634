use Rattle.std.proofs.Common.{◌≡◌, ◌++◌, take, filter, nat_eq}
use Rattle.std.specs.List.{flat_map}
use Rattle.samr_linear.proofs.letters.push_fields.Given as goal

abbrev pub invariant-loop-field : goal.invariant-loop-field
invariant-loop-field l = l.out.items ≡ l.fn.out.items ++ flat_map (λ f. filter (λ q. nat_eq q.edge.head.owner l.rank) f.asked) (take l.field-index l.fields)
