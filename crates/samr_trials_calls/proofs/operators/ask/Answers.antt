use Rattle.std.proofs.Common.{subst}
use Rattle.samr_box.specs.Corners.{Corners, Holds}
use Rattle.samr_ops.proofs.WalkLaws.{grown_cells_are_near}
use Rattle.samr_trials_calls.proofs.operators.ask.Goals as goal

pub outside-requires : goal.outside-requires
outside-requires g c =
    grown_cells_are_near c.args.strategy.now c.args.d.now c.args.x (subst (λ (b : Corners). Holds b c.args.x) c.requires.near c.requires.held)
