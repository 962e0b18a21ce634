use Rattle.std.proofs.Common.{◌≡◌, ◌++◌, take}
use Rattle.std.specs.List.{flat_map}
use Rattle.samr_modify.specs.Found.{taken_by}
use Rattle.samr_modify.proofs.taking.push_taken.Given as goal

abbrev pub invariant-loop-b : goal.invariant-loop-b
invariant-loop-b l = l.out.items ≡ l.fn.out.items ++ flat_map (λ b. taken_by l.ruler l.r.edges b) (take l.b-index l.b-items)
