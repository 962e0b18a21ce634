-- The value of each cell with its ghost cells, where cells over a coarser level get theirs by linear refinement.
use Rattle.std.specs.Prelude.{ℕ, zero, suc, pos, ◌+ℤ◌, ◌-ℤ◌, true, not, ◌&&◌, nat_lt, ◌==◌, List, [], ◌∷◌, length, map, slice_get, slice_index, Result, Ok, Err, if◌then◌else◌}
use Rattle.samr_box.specs.declared.vector.Axis.{Axis}
use Rattle.samr_box.specs.declared.vector.Axis.TheVariants.{I, J, K}
use Rattle.samr_box.specs.declared.vector.IVec.{IVec}
use Rattle.samr_box.specs.Vector.{at, put}
use Rattle.samr_box.specs.Space.{wrapped}
use Rattle.samr_box.specs.Ratios.{coarse}
use Rattle.samr_ops.specs.declared.rules.Rules.{Rules}
use Rattle.samr_ops.specs.Walks.{walked}
use Rattle.samr_sched.specs.Ask.{frame_of, coarse_frame}
use Rattle.samr_sched.specs.Origins.{is_beyond}
use Rattle.samr_fill.specs.Fill.{Filling, has, child}
use Rattle.samr_problem.specs.Fields.{Fields}
use Rattle.samr_hierarchy.specs.Scales.{rules_of, step_below}
use Rattle.samr_hierarchy.specs.Hierarchies.{Hierarchy, for_field, filling}
use Rattle.samr_linear.specs.declared.linear.Linear.{Linear}
use Rattle.samr_linear.specs.Lin.{lin}

-- the cells beside a cell, along i, j and k
abbrev pub axes : List Axis
axes = I ∷ J ∷ K ∷ []

abbrev pub before : IVec → List IVec
before c = map (λ axis. put axis c (at axis c -ℤ pos 1)) axes

abbrev pub behind : IVec → List IVec
behind c = map (λ axis. put axis c (at axis c +ℤ pos 1)) axes

-- the coarse cell of a cell, inside the domain
abbrev pub under : Filling → IVec → IVec
under w y = wrapped (coarse_frame w.schedule) (coarse y w.schedule.step)

-- by linear refinement, where the level below has `below` with its ghost cells
abbrev pub refined_between : Filling → Linear → (IVec → ℕ) → IVec → ℕ
refined_between w s below y = lin s (w.coarse_values 0 (under w y)) (map below (before (under w y))) (map below (behind (under w y))) (child y w.schedule.step)

abbrev pub linear_inner : Filling → Linear → (IVec → ℕ) → IVec → ℕ
linear_inner w s below y =
    if has w.schedule.level (wrapped (frame_of w.schedule) y) then w.values 0 (wrapped (frame_of w.schedule) y)
    else refined_between w s below y

abbrev pub linear_walked : Filling → Linear → (IVec → ℕ) → Result IVec ℕ → ℕ
linear_walked w s below (Err v) = v
linear_walked w s below (Ok y) = linear_inner w s below y

unfoldable pub linear_value : Filling → Rules → Linear → (IVec → ℕ) → IVec → ℕ
linear_value w r s below x =
    if nat_lt 0 (length w.schedule.region.parts) && is_beyond w.schedule x then slice_index w.schedule.fixed 0
    else linear_walked w s below (walked r (frame_of w.schedule) x)

-- what linear refinement to a level needs to know
abbrev pub linear_to : Fields → Rules → ℕ → Linear
linear_to p r l = record { modulus = r.modulus; ratio = step_below p l; real = record { k = not (p.dim == 2); j = true; i = true } }

-- level by level upwards
abbrev pub lin_val_by : Fields → ℕ → Hierarchy → Rules → ℕ → IVec → ℕ
lin_val_by p ranks h r zero = linear_value (filling p ranks h 0) r (linear_to p r 0) (λ y. 0)
lin_val_by p ranks h r (suc l) = linear_value (filling p ranks h (suc l)) r (linear_to p r (suc l)) (lin_val_by p ranks h r l)

-- of field 0
abbrev pub lin_val : Fields → ℕ → Hierarchy → ℕ → IVec → ℕ
lin_val p ranks h l x = for_field (slice_get p.fields 0) (λ f. lin_val_by p ranks h (rules_of f) l x)
