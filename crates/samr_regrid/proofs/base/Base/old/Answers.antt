use Rattle.std.proofs.Common.{◌∙◌}
use Rattle.samr_regrid.proofs.base.Base.old.Goals as goal
use Rattle.samr_regrid.proofs.PartsOfLevels.{within_parts, is_part}

pub one_of-requires : goal.one_of-requires
one_of-requires g c =
    let h = c.requires.2 in
    let w = c.requires.0 in
    within_parts _ _ c.requires.1 w.pass.number _ _ (c.as_slice.ensures ∙ h.4.same_olds) (c.from.ensures ∙ h.4.same_level) h.1.is_old

pub returns : goal.returns
returns g c = λ w r h. is_part _ _ r w.pass.number _ _ _ c.one_of.ensures (c.as_slice.ensures ∙ h.4.same_olds) (c.from.ensures ∙ h.4.same_level) h.1.is_old
