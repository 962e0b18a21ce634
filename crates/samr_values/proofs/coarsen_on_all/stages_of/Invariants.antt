use Rattle.std.proofs.Common.{◌≡◌, ℕ, length, Some, slice_get}
use Rattle.samr_values.specs.declared.coarsen.Coarsen.{Coarsen}
use Rattle.samr_values.specs.Coarsen.{Coarsening}
use Rattle.samr_values.specs.CoarsenParts.{HasMerged}
use Rattle.samr_values.specs.CoarsenOnAll.{HaveAllFine}
use Rattle.samr_values.proofs.coarsen_on_all.stages_of.Given as goal

abbrev pub invariant-each : goal.invariant-each
invariant-each l =
    (length l.stages.items ≡ l.rank)
    × (length l.yielded ≡ l.rank)
    × ((w : Coarsening) → HaveAllFine l.pairs l.fine l.fn.coarse.items l.rules l.moduli w → (k : ℕ) (s : Coarsen)
    → slice_get l.stages.items k ≡ Some s → HasMerged s.letters.items s.own.items s.senders.items s.coarse w k)
