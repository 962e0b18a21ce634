-- The values of all cells about a level: of its own cells, of cells beyond the borders, and of cells that only the level below has.
use Rattle.std.specs.Prelude.{◌≡◌, ℕ, ◌+◌, ◌<◌, ◌^◌, Bool, ◌&&◌, not, nat_lt, pos, List, length, map, slice_index, slice_get, Some, Result, Ok, Err, if◌then◌else◌}
use Rattle.std.specs.List.{list_any, All}
use Rattle.samr_box.specs.declared.vector.IVec.{IVec}
use Rattle.samr_box.specs.Vector.{alike, minus, times, AtMost}
use Rattle.samr_box.specs.Corners.{holds}
use Rattle.samr_box.specs.Ratios.{coarse}
use Rattle.samr_box.specs.Space.{wrapped}
use Rattle.samr_box.specs.Lists.{Member}
use Rattle.samr_level.specs.Refs.{Owned}
use Rattle.samr_level.specs.Levels.{IsCellIn}
use Rattle.samr_ops.specs.declared.rules.Rules.{Rules}
use Rattle.samr_ops.specs.Rules.{IsRules, refined_value}
use Rattle.samr_ops.specs.Walks.{walked}
use Rattle.samr_sched.specs.Ask.{Scheduling, IsScheduling, IsSourced, frame_of, coarse_frame}
use Rattle.samr_sched.specs.Origins.{is_beyond}

-- a schedule with the rules of each field, and with the values of each field in the cells of the level and of the one below
pub record Filling : Type 0 where
  pub schedule : Scheduling
  pub rules : List Rules
  pub values : ℕ → IVec → ℕ
  pub coarse_values : ℕ → IVec → ℕ

-- a cell lies in a box of the list
abbrev pub has : List Owned → IVec → Bool
has level x = list_any (λ b. holds b.bx x) level

-- where a fine cell lies in its coarse cell
abbrev pub child : IVec → IVec → IVec
child x step = minus x (times (coarse x step) step)

-- the value of a cell that lies inside all borders: its own in the level, else the refined one of the cell over it
abbrev pub inner_value : Filling → ℕ × Rules → IVec → ℕ
inner_value w f y =
    let s = w.schedule in
    if has s.level (wrapped (frame_of s) y) then w.values f.0 (wrapped (frame_of s) y)
    else refined_value f.1 (w.coarse_values f.0 (wrapped (coarse_frame s) (coarse y s.step))) (child y s.step)

-- the value where a walk over the axes ends: a fixed one, or that of the cell that is left
abbrev pub walked_value : Filling → ℕ × Rules → Result IVec ℕ → ℕ
walked_value w f (Err v) = v
walked_value w f (Ok y) = inner_value w f y

-- the value of a cell: in a domain of parts the fixed one beyond the borders, else by the walk
unfoldable pub value_of : Filling → ℕ × Rules → IVec → ℕ
value_of w f x =
    if nat_lt 0 (length w.schedule.region.parts) && is_beyond w.schedule x then slice_index w.schedule.fixed f.0
    else walked_value w f (walked f.1 (frame_of w.schedule) x)

-- the rules are those of fields with these widths of ghost cells, the values below the moduli, and each ghost cell has a source
pub record IsFilling (w : Filling) : Type 0 where
  pub schedule : IsScheduling w.schedule
  pub sourced : IsSourced w.schedule
  pub rules : All IsRules w.rules
  pub few : length w.rules < 2 ^ 8
  pub widths : map (λ r. r.width) w.rules ≡ w.schedule.ghosts
  pub fixed : nat_lt 0 (length w.schedule.region.parts) ≡ nat_lt 0 (length w.schedule.fixed)
  pub all_fixed : 0 < length w.schedule.region.parts → length w.schedule.fixed ≡ length w.rules
  pub step : AtMost w.schedule.step (alike (pos 4))
  pub fits : (f : ℕ) (r : Rules) (x : IVec) → slice_get w.rules f ≡ Some r → IsCellIn w.schedule.level x → w.values f x < r.modulus
  pub coarse_fits : (f : ℕ) (r : Rules) (x : IVec) → slice_get w.rules f ≡ Some r → IsCellIn w.schedule.coarser x → w.coarse_values f x < r.modulus
