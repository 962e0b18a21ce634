-- What a rank has before the stage `Ask`, and once it has made its plans.
use Rattle.std.specs.Prelude.{◌≡◌, ℕ, ◌<◌, pos, Option, Some, None, List, []}
use Rattle.std.specs.List.Sorted.{IsStrictlySortedBy}
use Rattle.samr_box.specs.Vector.{alike, times, AtMost, IsRatio}
use Rattle.samr_box.specs.Corners.{IsBox, grown}
use Rattle.samr_box.specs.Lists.{Member}
use Rattle.samr_box.specs.declared.vector.IVec.{IVec}
use Rattle.samr_level.specs.declared.parts.Part.{Part}
use Rattle.samr_level.specs.declared.parts.Pair.{Pair}
use Rattle.samr_level.specs.Refs.{Owned, Link}
use Rattle.samr_level.specs.RefOrders.{ref_cmp}
use Rattle.samr_level.specs.Regions.{Area, IsArea}
use Rattle.samr_level.specs.Pairs.{part, pair}
use Rattle.samr_box.specs.Space.{Space, IsSpace}
use Rattle.samr_peers.specs.Peers.{other_owners}
use Rattle.samr_sched.specs.declared.plan.BoxPlan.{BoxPlan}
use Rattle.samr_sched.specs.Ask.{Scheduling, domain_of, frame_of, coarse_frame, selves, downs, ups}
use Rattle.samr_sched.specs.Plans.{box_plans}

-- its overlaps of the level with itself, and with the level below
abbrev pub self_pair : Scheduling → ℕ → Pair
self_pair w r = pair w.region.frame w.width w.ratio w.ratio w.level w.level r

abbrev pub down_pair : Scheduling → ℕ → Pair
down_pair w r = pair w.region.frame w.reach w.ratio w.below w.level w.coarser r

-- what is known of the level below: for level 0, that there is none
abbrev pub KnowsBelow : Option Pair → Scheduling → ℕ → Type 0
KnowsBelow (Some p) w r = p ≡ down_pair w r
KnowsBelow None w r = (w.coarser ≡ []) × (w.below ≡ w.ratio) × (w.step ≡ alike (pos 1))

-- what plans rest on: levels in order on the ranks, boxes that are not empty, and overlaps that are known as far as ghost cells reach
pub record CanPlan (w : Scheduling) : Type 0 where
  pub area : IsArea (domain_of w)
  pub space_below : IsSpace (coarse_frame w)
  pub level : IsStrictlySortedBy ref_cmp w.level
  pub coarser : IsStrictlySortedBy ref_cmp w.coarser
  pub not_empty : (b : Owned) → Member b w.level → AtMost b.bx.lo b.bx.hi
  pub owners : (b : Owned) → Member b w.level → b.owner < w.ranks
  pub owners_below : (b : Owned) → Member b w.coarser → b.owner < w.ranks
  pub ratio : IsRatio w.ratio
  pub step : IsRatio w.step
  pub product : times w.below w.step ≡ w.ratio
  pub wide : (g : IVec) → Member g w.ghosts → AtMost g w.width
  pub room : (g : IVec) (b : Owned) → Member g w.ghosts → Member b w.level → IsBox (grown b.bx g)

-- what a rank has at first
pub record HasLevels (rank ranks : ℕ) (region : Area) (boxes : Part) (selves : Pair) (coarser : Option Pair) (ghosts : List IVec) (fixed : List ℕ) (w : Scheduling) (r : ℕ) : Type 0 where
  pub is : CanPlan w
  pub same_rank : rank ≡ r
  pub same_ranks : ranks ≡ w.ranks
  pub within : r < w.ranks
  pub same_region : region ≡ w.region
  pub same_part : boxes ≡ part w.level r
  pub same_selves : selves ≡ self_pair w r
  pub same_below : KnowsBelow coarser w r
  pub same_ghosts : ghosts ≡ w.ghosts
  pub same_fixed : fixed ≡ w.fixed

-- the same, by its edges to the level below and back
pub record HasEdges (rank : ℕ) (region : Area) (boxes : Part) (overlaps : Pair) (ratio_below : IVec) (forth back : List Link) (ghosts : List IVec) (fixed : List ℕ) (w : Scheduling) (r : ℕ) : Type 0 where
  pub is : CanPlan w
  pub same_rank : rank ≡ r
  pub within : r < w.ranks
  pub same_region : region ≡ w.region
  pub same_part : boxes ≡ part w.level r
  pub same_selves : overlaps ≡ self_pair w r
  pub same_ratio : ratio_below ≡ w.below
  pub same_forth : forth ≡ downs w r
  pub same_back : back ≡ ups w r
  pub same_ghosts : ghosts ≡ w.ghosts
  pub same_fixed : fixed ≡ w.fixed

-- what it has once its plans are made
pub record HasPlans (rank : ℕ) (frame below : Space) (step : IVec) (boxes : List BoxPlan) (near under senders fixed : List ℕ) (w : Scheduling) (r : ℕ) : Type 0 where
  pub is : CanPlan w
  pub same_rank : rank ≡ r
  pub within : r < w.ranks
  pub same_frame : frame ≡ frame_of w
  pub same_below : below ≡ coarse_frame w
  pub same_step : step ≡ w.step
  pub same_boxes : boxes ≡ box_plans w r
  pub same_near : near ≡ other_owners r (selves w r)
  pub same_under : under ≡ other_owners r (downs w r)
  pub same_senders : senders ≡ other_owners r (ups w r)
  pub same_fixed : fixed ≡ w.fixed
