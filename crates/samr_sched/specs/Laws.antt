-- Each ghost cell has one origin, and the plan tells it.
use Rattle.std.specs.Prelude.{◌≡◌, ℕ, ◌&&◌, List, [], ◌∷◌, map, filter, ◌++◌, if◌then◌else◌, false}
use Rattle.samr_box.specs.declared.vector.IVec.{IVec}
use Rattle.samr_box.specs.Corners.{Holds, holds, grown}
use Rattle.samr_box.specs.Ratios.{coarse}
use Rattle.samr_box.specs.Space.{image}
use Rattle.samr_box.specs.Lists.{Member}
use Rattle.samr_boxlist.specs.Covers.{held}
use Rattle.samr_level.specs.Refs.{Owned}
use Rattle.samr_sched.specs.declared.origin.Origin.{Origin}
use Rattle.samr_sched.specs.declared.origin.Origin.TheVariants.{Outside, Copy, Coarse}
use Rattle.samr_sched.specs.declared.plan.FieldPlan.{FieldPlan}
use Rattle.samr_sched.specs.Ask.{Scheduling, IsScheduling, IsSourced, frame_of, coarse_frame, downs_of}
use Rattle.samr_sched.specs.Origins.{origins}
use Rattle.samr_sched.specs.Plans.{field_plan}

abbrev pub EachHasOneOrigin : Type 0
EachHasOneOrigin =
    (w : Scheduling) → IsScheduling w → IsSourced w → (b : Owned) (g x : IVec) → Member b w.level → Member g w.ghosts → Holds (grown b.bx g) x
    → (o : Origin) × (origins w x ≡ o ∷ [])

-- the origins of a cell by a plan: the boundary where no part of the domain has it, the copies whose images have it, and the heads over it
-- where the rest has it
unfoldable pub planned : Scheduling → Owned → FieldPlan → IVec → List Origin
planned w b p x =
    (if held x p.inside then [] else Outside ∷ [])
    ++ map (λ e. Copy e.head e.shift) (filter (λ e. held x p.inside && holds (image (frame_of w) e.head.bx e.shift) x) p.copies)
    ++ map (λ e. Coarse e.head e.shift) (filter (λ e. held x p.rest && holds (image (coarse_frame w) e.head.bx e.shift) (coarse x w.step)) (downs_of w b))

-- for each ghost cell these are its origins by the whole levels
abbrev pub PlansTellOrigins : Type 0
PlansTellOrigins =
    (w : Scheduling) → IsScheduling w → (b : Owned) (field : ℕ) (g x : IVec) → Member b w.level → Member g w.ghosts
    → Holds (grown b.bx g) x → holds b.bx x ≡ false → planned w b (field_plan w b (field, g)) x ≡ origins w x
