use Rattle.std.specs.Prelude.{[], map}
use Rattle.samr_level.specs.declared.parts.Move.{Move}
use Rattle.samr_level.specs.Levels.{own}
use Rattle.samr_level.proofs.Steps.{flat_map_on}
use Rattle.samr_modify.specs.Pieces.{piece}
use Rattle.samr_trials_stages.proofs.modifies.pieces_of.Goals as goal

pub loop-m-preserved : goal.loop-m-preserved
loop-m-preserved c =
    flat_map_on c.args.moves.now c.loop-m.m-index c.m-item.result c.loop-m-test.true c.m-item.is
    (λ (m : Move). map (λ b. piece m.old.owner b) (own c.args.rank m.news)) [] _ _ c.loop-m.invariant c.in_ok-push_pieces.ensures
