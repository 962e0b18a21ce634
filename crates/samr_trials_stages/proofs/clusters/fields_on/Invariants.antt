use Rattle.std.proofs.Common.{take}
use Rattle.std.specs.List.{list_any}
use Rattle.samr_box.specs.Corners.{holds}
use Rattle.samr_sign.specs.Fields.{AreTags}
use Rattle.samr_trials_stages.proofs.clusters.fields_on.Given as goal

abbrev pub invariant-loop-bx : goal.invariant-loop-bx
invariant-loop-bx l = AreTags (take l.bx-index l.boxes) (λ x. list_any (λ s. holds s x) l.fn.spots) l.fields.items
