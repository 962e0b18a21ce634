-- What all ranks have before they ask, and their stages.
use Rattle.std.specs.Prelude.{◌≡◌, ℕ, ◌⊎◌, pos, List, [], map, length, slice_get, Some}
use Rattle.std.specs.List.{range_with_len}
use Rattle.samr_box.specs.declared.vector.IVec.{IVec}
use Rattle.samr_box.specs.Vector.{alike}
use Rattle.samr_level.specs.declared.parts.Part.{Part}
use Rattle.samr_level.specs.declared.parts.Pair.{Pair}
use Rattle.samr_level.specs.Regions.{Area}
use Rattle.samr_level.specs.Pairs.{part}
use Rattle.samr_sched.specs.declared.ask.Ask.{Ask}
use Rattle.samr_sched.specs.Ask.{Scheduling}
use Rattle.samr_sched.specs.AskParts.{self_pair, down_pair, CanPlan, HasPlans}

-- the overlaps of all ranks with the level below: for level 0, none
abbrev pub KnowAllBelow : List Pair → Scheduling → Type 0
KnowAllBelow pairs w =
    (pairs ≡ map (λ rank. down_pair w rank) (range_with_len 0 w.ranks))
    ⊎ ((pairs ≡ []) × (w.coarser ≡ []) × (w.below ≡ w.ratio) × (w.step ≡ alike (pos 1)))

-- the boxes and the overlaps of each rank, in order of rank
pub record HaveAllLevels (region : Area) (parts : List Part) (selves coarser : List Pair) (ghosts : List IVec) (fixed : List ℕ) (w : Scheduling) : Type 0 where
  pub is : CanPlan w
  pub same_region : region ≡ w.region
  pub same_parts : parts ≡ map (λ rank. part w.level rank) (range_with_len 0 w.ranks)
  pub same_selves : selves ≡ map (λ rank. self_pair w rank) (range_with_len 0 w.ranks)
  pub same_below : KnowAllBelow coarser w
  pub same_ghosts : ghosts ≡ w.ghosts
  pub same_fixed : fixed ≡ w.fixed

-- stages of all ranks that have made their plans
pub record HaveAllPlans (w : Scheduling) (stages : List Ask) : Type 0 where
  pub count : length stages ≡ w.ranks
  pub each : (rank : ℕ) (s : Ask) → slice_get stages rank ≡ Some s
      → HasPlans s.rank s.frame s.below s.step s.boxes.items s.near.items s.under.items s.senders.items s.fixed.items w rank
