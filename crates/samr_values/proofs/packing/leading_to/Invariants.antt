use Rattle.std.proofs.Common.{◌≡◌, take, filter}
use Rattle.samr_values.specs.ValuesRow.{leads_to}
use Rattle.samr_values.proofs.packing.leading_to.Given as goal

abbrev pub invariant-loop-e : goal.invariant-loop-e
invariant-loop-e l = l.leading.items ≡ filter (λ e. leads_to l.rank e) (take l.e-index l.edges)
