-- The loop of `updated_patches`.
use Rattle.std.proofs.Common.{◌≡◌, ◌≤◌, map, take}
use Rattle.std.specs.Prelude.{zip, List}
use Rattle.samr_data.specs.Grids.{Grid}
use Rattle.samr_ops.specs.declared.rules.Rules.{Rules}
use Rattle.samr_values.specs.Updating.{updated_at}
use Rattle.samr_values.proofs.update.updated_patches.Given as goal

abbrev pub invariant-loop-f : goal.invariant-loop-f
invariant-loop-f g l =
    let rules : List Rules = take l.f l.strategies in
    let fields : List (List Grid) = take l.f l.patches in
    (l.f ≤ l.f-end) × (l.out.items ≡ map (λ (e : Rules × List Grid). map (λ (p : Grid). updated_at l.fn.dim e.0 p) e.1) (zip rules fields))
