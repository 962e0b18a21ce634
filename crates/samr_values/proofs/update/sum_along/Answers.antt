-- The steps of `sum_along`.
use Rattle.samr_values.proofs.Faces.{in_patch}
use Rattle.std.proofs.Common.{sym, subst}
use Rattle.samr_box.specs.Corners.{Holds}
use Rattle.samr_box.specs.declared.vector.IVec.{IVec}
use Rattle.samr_data.specs.Grids.{over}
use Rattle.samr_values.proofs.update.sum_along.Goals as goal

pub cell_back-requires : goal.cell_back-requires
cell_back-requires c = in_patch c.args.patch.now c.args.x c.over.ensures.grid c.requires.here

pub cell_ahead-requires : goal.cell_ahead-requires
cell_ahead-requires c = in_patch c.args.patch.now c.args.x c.over.ensures.grid c.requires.here

pub get-back-requires : goal.get-back-requires
get-back-requires c = subst (λ (v : IVec). Holds (over c.args.patch.now) v) (sym c.cell_back.ensures) c.requires.back

pub get-ahead-requires : goal.get-ahead-requires
get-ahead-requires c = subst (λ (v : IVec). Holds (over c.args.patch.now) v) (sym c.cell_ahead.ensures) c.requires.ahead
