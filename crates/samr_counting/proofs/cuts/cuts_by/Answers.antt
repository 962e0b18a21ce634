use Rattle.std.proofs.Common.{◌∙◌}
use Rattle.samr_counting.proofs.cuts.cuts_by.Goals as goal
use Rattle.samr_counting.proofs.CutBegins.{cutting_of}

pub own_cuts-requires : goal.own_cuts-requires
own_cuts-requires g c =
    let w = c.requires.0 in
    let r = c.requires.1 in
    let h = c.requires.2 in
    (w.at.setting.problem, w.pass, r, cutting_of _ _ _ _ _ w r h.0.problem h.1 c.as_slice.ensures c.requires.3 (c.in_ok-knife.ensures w r h))

pub returns : goal.returns
returns g c = λ w r h same.
    c.from_vec.ensures ∙ c.in_ok-cuts.ensures w.at.setting.problem w.pass r (cutting_of _ _ _ _ _ w r h.0.problem h.1 c.as_slice.ensures same (c.in_ok-knife.ensures w r h))
