use Rattle.std.proofs.Common.{◌∙◌}
use Rattle.samr_regrid.proofs.base.Base.old_above.Goals as goal
use Rattle.samr_regrid.proofs.PartsOfLevels.{places}

pub returns : goal.returns
returns g c = λ w r h.
    c.at.ensures ∙ places _ _ _ _ (c.as_slice.ensures ∙ h.4.same_olds) (c.from.ensures ∙ h.4.same_level)
