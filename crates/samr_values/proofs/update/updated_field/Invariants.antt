-- The loop of `updated_field`.
use Rattle.std.proofs.Common.{◌≡◌, map, take}
use Rattle.samr_values.specs.Updating.{updated_at}
use Rattle.samr_values.proofs.update.updated_field.Given as goal

abbrev pub invariant-loop-patch : goal.invariant-loop-patch
invariant-loop-patch g l = l.out.items ≡ map (λ p. updated_at l.fn.dim l.strategy p) (take l.patch-index l.patches)
