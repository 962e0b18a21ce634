use Rattle.std.proofs.Common.{◌<◌, ◌^◌, sym, subst, ◌∙◌}
use Rattle.samr_counting.proofs.LoadSums.{height_down, height_up, height_small}
use Rattle.samr_counting.proofs.seats.height_of.Goals as goal

pub returns-clause-down : goal.returns-clause-down
returns-clause-down g c = λ w r h. height_down w h.1 c.ranks.result c.height.result (c.ranks.ensures w r h) c.height.ensures.bottom

pub returns-clause-up : goal.returns-clause-up
returns-clause-up g c = λ w r h. height_up w h.1 c.ranks.result c.height.result (c.ranks.ensures w r h) c.height.ensures.bottom

pub returns-clause-small : goal.returns-clause-small
returns-clause-small g c =
    let w = c.requires.0 in
    let h = c.requires.2 in
    height_small c.ranks.result c.height.result (subst (λ n. n < 2 ^ 16) (sym (c.ranks.ensures w c.requires.1 h ∙ h.1.same_ranks)) h.0.few) c.height.ensures.bottom
