-- What is true of the values of a new level, and of those under a finer one.
use Rattle.std.specs.Prelude.{◌≡◌, ℕ, ◌<◌, ◌&&◌, false, map, Some, slice_get}
use Rattle.std.specs.List.{All}
use Rattle.samr_box.specs.declared.vector.IVec.{IVec}
use Rattle.samr_box.specs.Corners.{Holds, holds}
use Rattle.samr_box.specs.Lists.{Member}
use Rattle.samr_level.specs.Levels.{IsCellIn}
use Rattle.samr_data.specs.Grids.{Grid, over, value_at}
use Rattle.samr_ops.specs.declared.rules.CoarsenRule.{CoarsenRule}
use Rattle.samr_ops.specs.declared.rules.Rules.{Rules}
use Rattle.samr_values.specs.Values.{Renewing, IsRenewing, new_value}
use Rattle.samr_values.specs.Coarsen.{Coarsening, IsCoarsening, fields, children, is_under, merged, after}

-- the values of a new level are below the modulus of the field, where old ones are
abbrev pub NewValuesFit : Type 0
NewValuesFit =
    (w : Renewing) (f : ℕ) (r : Rules) (x : IVec) → IsRenewing w → slice_get w.rules f ≡ Some r → IsCellIn w.news x
    → (IsCellIn w.olds x → w.values f x < r.modulus) → new_value w (f, r) x < r.modulus

-- those of coarse cells are, where the values over them are
abbrev pub MergedValuesFit : Type 0
MergedValuesFit =
    (w : Coarsening) (f : ℕ × (CoarsenRule × ℕ)) (x : IVec) → IsCoarsening w → Member f (fields w)
    → All (λ v. v < f.1.1) (map (w.fine_values f.0) (children w x)) → merged w f x < f.1.1

-- a cell that does not lie under the finer level, and a ghost cell, keeps its value
abbrev pub OthersKeepTheirs : Type 0
OthersKeepTheirs =
    (w : Coarsening) (f : ℕ × (CoarsenRule × ℕ)) (p : Grid) (x : IVec) → Holds (over p) x → (holds p.bx x && is_under w x) ≡ false
    → value_at (after w f p) x ≡ value_at p x
