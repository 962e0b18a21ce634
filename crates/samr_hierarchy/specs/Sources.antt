-- Where the value of each cell about a level comes from, and that each such cell has one source.
use Rattle.std.specs.Prelude.{◌≡◌, ℕ, ◌<◌, ◌&&◌, nat_lt, [], ◌∷◌, length, slice_index, slice_get, Option, Some, None, Result, Ok, Err, if◌then◌else◌}
use Rattle.samr_box.specs.declared.vector.IVec.{IVec}
use Rattle.samr_box.specs.Corners.{Holds, grown}
use Rattle.samr_box.specs.Ratios.{coarse}
use Rattle.samr_box.specs.Space.{wrapped}
use Rattle.samr_box.specs.Lists.{Member}
use Rattle.samr_level.specs.Refs.{Owned}
use Rattle.samr_ops.specs.declared.rules.Rules.{Rules}
use Rattle.samr_ops.specs.Rules.{refined_value}
use Rattle.samr_ops.specs.Walks.{walked}
use Rattle.samr_sched.specs.declared.origin.Origin.{Origin}
use Rattle.samr_sched.specs.Ask.{Scheduling, frame_of, coarse_frame}
use Rattle.samr_sched.specs.Origins.{is_beyond, origins}
use Rattle.samr_fill.specs.Fill.{Filling, has, child, value_of}
use Rattle.samr_problem.specs.declared.field.Field.{Field}
use Rattle.samr_problem.specs.Fields.{Fields}
use Rattle.samr_mesh.specs.Meshes.{level_at}
use Rattle.samr_hierarchy.specs.Scales.{rules_of}
use Rattle.samr_hierarchy.specs.Hierarchies.{Hierarchy, scheduling}

-- a value beyond the borders, a cell of the level, or a cell of the level below and where in it the fine cell lies
pub data Source : Type 0 where
  Bound : ℕ → Source
  OwnCell : IVec → Source
  CoarseCell : IVec → IVec → Source

-- the source of a cell that lies inside all borders: its own cell, wrapped, where the level has it, else the cell over it, where the level below has that
abbrev pub inner_source : Scheduling → IVec → Option Source
inner_source w y =
    if has w.level (wrapped (frame_of w) y) then Some (OwnCell (wrapped (frame_of w) y))
    else if has w.coarser (wrapped (coarse_frame w) (coarse y w.step)) then Some (CoarseCell (wrapped (coarse_frame w) (coarse y w.step)) (child y w.step))
    else None

-- where the walk over the axes ends: at a fixed value, or at a cell
abbrev pub walked_source : Scheduling → Result IVec ℕ → Option Source
walked_source w (Err v) = Some (Bound v)
walked_source w (Ok y) = inner_source w y

-- the source of a cell: in a domain of parts the fixed value beyond the borders, else by the walk
unfoldable pub source_of : Scheduling → ℕ × Rules → IVec → Option Source
source_of w f x =
    if nat_lt 0 (length w.region.parts) && is_beyond w x then Some (Bound (slice_index w.fixed f.0))
    else walked_source w (walked f.1 (frame_of w) x)

-- the value of a source
abbrev pub value_from : Filling → ℕ × Rules → Source → ℕ
value_from w f (Bound v) = v
value_from w f (OwnCell y) = w.values f.0 y
value_from w f (CoarseCell c inside) = refined_value f.1 (w.coarse_values f.0 c) inside

-- a fill gives each cell that has a source the value of this
abbrev pub ValuesComeFromSources : Type 0
ValuesComeFromSources = (w : Filling) (f : ℕ × Rules) (x : IVec) (s : Source) → source_of w.schedule f x ≡ Some s → value_of w f x ≡ value_from w f s

-- one ghost cell of a level: it has exactly one origin, and a source
pub record IsOnceAt (w : Scheduling) (f : ℕ × Rules) (x : IVec) : Type 0 where
  pub origin : (o : Origin) × (origins w x ≡ o ∷ [])
  pub source : (s : Source) × (source_of w f x ≡ Some s)

-- so it is with each cell of each box of each level, grown by the ghost width of each field
abbrev pub IsOnce : Fields → ℕ → Hierarchy → Type 0
IsOnce p ranks h =
    (f l : ℕ) (field : Field) (b : Owned) (x : IVec) → slice_get p.fields f ≡ Some field → l < length h.levels → Member b (level_at h.levels l)
    → Holds (grown b.bx field.ghosts) x → IsOnceAt (scheduling p ranks h.levels l) (f, rules_of field) x
