-- What a rank has before the stage `Values`, and once it has packed and told its parcels.
use Rattle.std.specs.Prelude.{◌≡◌, ◌⊎◌, ℕ, ◌<◌, List, [], length, map, Option, Some, None}
use Rattle.samr_box.specs.declared.vector.IVec.{IVec}
use Rattle.samr_box.specs.Corners.{Corners}
use Rattle.samr_level.specs.declared.parts.Pair.{Pair}
use Rattle.samr_level.specs.Refs.{Link}
use Rattle.samr_level.specs.Levels.{own}
use Rattle.samr_level.specs.Pairs.{pair}
use Rattle.samr_data.specs.Grids.{Grid}
use Rattle.samr_ops.specs.declared.rules.Rules.{Rules}
use Rattle.samr_peers.specs.Peers.{other_owners}
use Rattle.samr_data.specs.declared.parcel.Parcel.{Parcel}
use Rattle.samr_values.specs.Patches.{HasValues}
use Rattle.samr_values.specs.Values.{Renewing, IsRenewing, old_ups, coarse_ups, to_olds, downs}
use Rattle.samr_values.specs.ValuesRow.{parcels, sends, hears}

-- its overlaps of the new level with the old one, where there was one, and with the level below
abbrev pub KnowsOld : Option Pair → Renewing → ℕ → Type 0
KnowsOld (Some p) w r = p ≡ pair w.frame w.width w.ratio w.ratio w.news w.olds r
KnowsOld None w r = w.olds ≡ []

-- patches of each field of the old level; where there was no such level, none will do
abbrev pub HasFields : Renewing → List (List Grid) → Type 0
HasFields w patches = ((w.olds ≡ []) × (patches ≡ [])) ⊎ (length patches ≡ length w.rules)

-- its patches of the old level and of the level below
pub record HasPatches (patches coarse : List (List Grid)) (rules : List Rules) (w : Renewing) (r : ℕ) : Type 0 where
  pub same_rules : rules ≡ w.rules
  pub same_values : HasValues w.values (own r w.olds) patches
  pub fields : HasFields w patches
  pub coarse_values : HasValues w.coarse_values (own r w.coarser) coarse
  pub coarse_fields : length coarse ≡ length w.rules

-- what a rank has at first: its boxes of the new level, these overlaps, and its patches of the old levels
pub record HasOld (rank : ℕ) (news : List Corners) (same : Option Pair) (coarser : Pair) (step : IVec) (patches coarse : List (List Grid)) (rules : List Rules) (w : Renewing) (r : ℕ) : Type 0 where
  pub is : IsRenewing w
  pub same_rank : rank ≡ r
  pub within : r < w.ranks
  pub same_boxes : news ≡ map (λ b. b.bx) (own r w.news)
  pub same_old : KnowsOld same w r
  pub same_coarser : coarser ≡ pair w.frame w.reach w.ratio w.below w.news w.coarser r
  pub same_step : step ≡ w.step
  pub has : HasPatches patches coarse rules w r

-- the same, with its edges one by one
pub record HasEdges (rank : ℕ) (news : List Corners) (olds old_back coarser coarse_back : List Link) (step : IVec) (patches coarse : List (List Grid)) (rules : List Rules) (w : Renewing) (r : ℕ) : Type 0 where
  pub is : IsRenewing w
  pub same_rank : rank ≡ r
  pub within : r < w.ranks
  pub same_boxes : news ≡ map (λ b. b.bx) (own r w.news)
  pub same_olds : olds ≡ to_olds w r
  pub same_old_back : old_back ≡ old_ups w r
  pub same_coarser : coarser ≡ downs w r
  pub same_coarse_back : coarse_back ≡ coarse_ups w r
  pub same_step : step ≡ w.step
  pub has : HasPatches patches coarse rules w r

-- and once it has packed all parcels
pub record HasPacked (rank : ℕ) (step : IVec) (boxes : List Corners) (letters : List (ℕ × List Parcel)) (own_parcels : List Parcel) (senders : List ℕ) (rules : List Rules) (w : Renewing) (r : ℕ) : Type 0 where
  pub is : IsRenewing w
  pub same_rank : rank ≡ r
  pub within : r < w.ranks
  pub same_step : step ≡ w.step
  pub same_boxes : boxes ≡ map (λ b. b.bx) (own r w.news)
  pub same_letters : letters ≡ map (λ to. (to, parcels w r to)) (other_owners r (sends w r))
  pub same_own : own_parcels ≡ parcels w r r
  pub same_senders : senders ≡ other_owners r (hears w r)
  pub same_rules : rules ≡ w.rules

-- and once it has told them
pub record Waits (rank : ℕ) (step : IVec) (boxes : List Corners) (own_parcels : List Parcel) (senders : List ℕ) (rules : List Rules) (w : Renewing) (r : ℕ) : Type 0 where
  pub is : IsRenewing w
  pub same_rank : rank ≡ r
  pub within : r < w.ranks
  pub same_step : step ≡ w.step
  pub same_boxes : boxes ≡ map (λ b. b.bx) (own r w.news)
  pub same_own : own_parcels ≡ parcels w r r
  pub same_senders : senders ≡ other_owners r (hears w r)
  pub same_rules : rules ≡ w.rules
