use Rattle.std.proofs.Common.{ap, ◌∙◌}
use Rattle.samr_box.specs.declared.vector.Axis.TheVariants.{I, J, K}
use Rattle.samr_level.proofs.Spreading.{spread, shifts_by_axis}
use Rattle.samr_level.proofs.shift.shifts.Goals as goal

pub returns : goal.returns
returns c =
    let f = c.args.periodic in
    c.in_ok-all.ensures
    ∙ ap (spread f I) (c.in_ok-along_j.ensures ∙ ap (spread f J) (c.in_ok-along_k.ensures ∙ ap (spread f K) (c.in_ok-here.ensures.items ∙ c.as_slice.ensures)))
    ∙ shifts_by_axis f
