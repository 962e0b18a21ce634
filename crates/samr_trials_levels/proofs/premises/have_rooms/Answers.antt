use Rattle.std.proofs.Common.{subst}
use Rattle.std.proofs.lemmas.List.{take_all}
use Rattle.std.proofs.lemmas.List.Elements.{All-more}
use Rattle.std.specs.List.{All}
use Rattle.samr_trials_levels.specs.First.{HasRooms}
use Rattle.samr_trials_levels.proofs.premises.have_rooms.Goals as goal

pub loop-g-preserved : goal.loop-g-preserved
loop-g-preserved c =
    All-more (HasRooms c.args.level.now) c.args.widths.now c.loop-g.g-index _ c.loop-g-test.true c.loop-g.invariant (c.has_rooms.ensures c.if-not-has_rooms.false)

pub returns : goal.returns
returns c = λ t. subst (All (HasRooms c.args.level.now)) (take_all c.loop-g.g-index c.args.widths.now c.loop-g-test.false) c.loop-g.invariant
