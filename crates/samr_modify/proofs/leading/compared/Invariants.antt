use Rattle.std.proofs.Common.{◌≡◌, take}
use Rattle.std.specs.List.{flat_map}
use Rattle.samr_modify.specs.Found.{led}
use Rattle.samr_modify.proofs.leading.compared.Given as goal

abbrev pub invariant-loop-e : goal.invariant-loop-e
invariant-loop-e l = l.out.items ≡ flat_map (λ e. flat_map (λ r. led l.ruler e r) l.known) (take l.e-index l.edges)
