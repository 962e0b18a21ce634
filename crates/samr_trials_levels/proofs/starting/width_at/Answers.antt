use Rattle.std.proofs.lemmas.Option.{slice_get-get_or}
use Rattle.samr_trials_levels.proofs.starting.width_at.Goals as goal

pub returns : goal.returns
returns c = slice_get-get_or c.args.widths.now c.args.field _ c.requires
