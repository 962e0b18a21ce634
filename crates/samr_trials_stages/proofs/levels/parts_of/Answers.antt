use Rattle.samr_level.specs.Pairs.{part}
use Rattle.samr_trials_levels.proofs.Steps.{one_more}
use Rattle.samr_trials_stages.proofs.levels.parts_of.Goals as goal

pub each-preserved : goal.each-preserved
each-preserved c =
    one_more (λ rank. part c.args.level.now rank) c.each.rank c.each.parts.items c.push.new.self.items c.in_ok-level_part.field-0 c.each.invariant c.in_ok-push.ensures.items c.in_ok-level_part.ensures
