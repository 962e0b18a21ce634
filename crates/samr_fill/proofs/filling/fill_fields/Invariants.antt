use Rattle.std.proofs.Common.{◌≡◌, ◌≤◌, ℕ, map, take}
use Rattle.std.specs.List.{enumerate_from}
use Rattle.samr_fill.specs.Fill.{Filling}
use Rattle.samr_fill.specs.FillParts.{filled_field}
use Rattle.samr_fill.specs.FilledSoFar.{AreFields}
use Rattle.samr_fill.proofs.filling.fill_fields.Given as goal

abbrev pub invariant-loop-field : goal.invariant-loop-field
invariant-loop-field g l =
    (l.field ≤ l.field-end)
    × ((w : Filling) (r : ℕ) → AreFields l.plan l.parcels l.strategies l.own w r
    → l.filled.items ≡ map (λ f. filled_field w r f) (enumerate_from 0 (take l.field l.strategies)))
