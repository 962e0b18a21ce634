-- What all ranks have at first.
use Rattle.std.specs.Prelude.{◌≡◌, ℕ, List, length, slice_get, Some}
use Rattle.samr_level.specs.declared.parts.Pair.{Pair}
use Rattle.samr_data.specs.Grids.{Grid}
use Rattle.samr_ops.specs.declared.rules.CoarsenRule.{CoarsenRule}
use Rattle.samr_values.specs.declared.coarsen.Coarsen.{Coarsen}
use Rattle.samr_values.specs.Coarsen.{Coarsening}
use Rattle.samr_values.specs.CoarsenParts.{HasFine, HasMerged}

-- the overlaps and the patches of each rank, in order of rank
pub record HaveAllFine (overlaps : List Pair) (fine coarse : List (List (List Grid))) (rules : List CoarsenRule) (moduli : List ℕ) (w : Coarsening) : Type 0 where
  pub pairs : length overlaps ≡ w.ranks
  pub fine_ranks : length fine ≡ w.ranks
  pub coarse_ranks : length coarse ≡ w.ranks
  pub each : (r : ℕ) (p : Pair) (f c : List (List Grid)) → slice_get overlaps r ≡ Some p → slice_get fine r ≡ Some f → slice_get coarse r ≡ Some c
      → HasFine r w.ranks p f c rules moduli w r

-- stages of all ranks that have merged all values
pub record AreAllMerged (w : Coarsening) (stages : List Coarsen) : Type 0 where
  pub count : length stages ≡ w.ranks
  pub each : (r : ℕ) (s : Coarsen) → slice_get stages r ≡ Some s → HasMerged s.letters.items s.own.items s.senders.items s.coarse w r
