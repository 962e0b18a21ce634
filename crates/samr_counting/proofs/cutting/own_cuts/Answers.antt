use Rattle.std.proofs.Common.{◌∙◌}
use Rattle.samr_counting.proofs.OwnCuts.{all_of}
use Rattle.samr_counting.proofs.cutting.own_cuts.Goals as goal

pub all_cuts-requires : goal.all_cuts-requires
all_cuts-requires c =
    let (p, w, r, is) = c.requires in
    (p, w, r, is, c.as_slice.ensures.value ∙ c.in_ok-clusters.ensures p w r is.can is.same_edges)

pub returns : goal.returns
returns c = λ p w r is.
    let same = c.as_slice.ensures.value ∙ c.in_ok-clusters.ensures p w r is.can is.same_edges in
    c.in_ok-cuts.ensures p w r is same ∙ all_of _ _ _ _ p w r c.as_slice.result.now is same
