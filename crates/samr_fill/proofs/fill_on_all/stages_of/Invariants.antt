use Rattle.std.proofs.Common.{◌≡◌, ℕ, length, Some, slice_get}
use Rattle.samr_fill.specs.declared.fill.Fill.{Fill}
use Rattle.samr_fill.specs.Fill.{Filling}
use Rattle.samr_fill.specs.FillOnAll.{HaveAllPatches}
use Rattle.samr_fill.specs.Staging.{HasLetters}
use Rattle.samr_fill.proofs.fill_on_all.stages_of.Given as goal

abbrev pub invariant-each : goal.invariant-each
invariant-each g l =
    (length l.stages.items ≡ l.rank)
    × (length l.yielded ≡ l.rank)
    × ((w : Filling) → HaveAllPatches l.plans l.fn.own.items l.coarser l.strategies w → (k : ℕ) (s : _)
    → slice_get l.stages.items k ≡ Some s → HasLetters s.plan s.own s.strategies.now s.letters.items s.parcels.items s.senders.items w k)
