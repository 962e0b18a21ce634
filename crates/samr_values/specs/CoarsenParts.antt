-- What a rank has before the stage `Coarsen`, and once it has merged all values.
use Rattle.std.specs.Prelude.{◌≡◌, ℕ, ◌<◌, ◌^◌, List, length, map}
use Rattle.samr_box.specs.Vector.{times}
use Rattle.samr_box.specs.Lists.{Member}
use Rattle.samr_level.specs.declared.parts.Pair.{Pair}
use Rattle.samr_level.specs.Levels.{own}
use Rattle.samr_level.specs.Pairs.{pair}
use Rattle.samr_data.specs.Grids.{Grid}
use Rattle.samr_ops.specs.declared.rules.CoarsenRule.{CoarsenRule}
use Rattle.samr_peers.specs.Peers.{other_owners}
use Rattle.samr_data.specs.declared.parcel.Parcel.{Parcel}
use Rattle.samr_values.specs.Patches.{HasValues}
use Rattle.samr_values.specs.Coarsen.{Coarsening, IsCoarsening, downs, ups}
use Rattle.samr_values.specs.CoarsenRow.{coarse_parcels}

-- what a rank has at first: its overlaps of the fine level with the coarse one, and its patches of both
pub record HasFine (rank ranks : ℕ) (overlaps : Pair) (fine coarse : List (List Grid)) (rules : List CoarsenRule) (moduli : List ℕ) (w : Coarsening) (r : ℕ) : Type 0 where
  pub is : IsCoarsening w
  pub same_rank : rank ≡ r
  pub same_ranks : ranks ≡ w.ranks
  pub within : r < w.ranks
  pub same_pair : overlaps ≡ pair w.frame w.width (times w.ratio w.step) w.ratio w.fine w.coarser r
  pub same_rules : rules ≡ w.rules
  pub same_moduli : moduli ≡ w.moduli
  pub fine_values : HasValues w.fine_values (own r w.fine) fine
  pub fine_fields : length fine ≡ length w.rules
  pub same_coarse : coarse ≡ w.before r
  pub coarse_boxes : (f : List Grid) → Member f coarse → map (λ p. p.bx) f ≡ map (λ b. b.bx) (own r w.coarser)
  pub coarse_fields : length coarse ≡ length w.rules

-- once it has merged all values: the parcels for itself, and the patches that get them
pub record HasOwn (own_parcels : List Parcel) (senders : List ℕ) (coarse : List (List Grid)) (w : Coarsening) (r : ℕ) : Type 0 where
  pub is : IsCoarsening w
  pub within : r < w.ranks
  pub same_own : own_parcels ≡ coarse_parcels w r r
  pub same_senders : senders ≡ other_owners r (ups w r)
  pub same_coarse : coarse ≡ w.before r
  pub coarse_boxes : (f : List Grid) → Member f coarse → map (λ p. p.bx) f ≡ map (λ b. b.bx) (own r w.coarser)
  pub coarse_fields : length coarse ≡ length w.rules
  pub few : length coarse < 2 ^ 8

-- and those for others, which it has not told yet
pub record HasMerged (letters : List (ℕ × List Parcel)) (own_parcels : List Parcel) (senders : List ℕ) (coarse : List (List Grid)) (w : Coarsening) (r : ℕ) : Type 0 where
  pub rest : HasOwn own_parcels senders coarse w r
  pub same_letters : letters ≡ map (λ to. (to, coarse_parcels w r to)) (other_owners r (downs w r))
