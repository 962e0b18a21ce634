use Rattle.std.proofs.Common.{◌∙◌}
use Rattle.samr_counting.proofs.LoadSums.{left_small, first_number}
use Rattle.samr_counting.proofs.loads.LoadMakingCutClimbing.make.Goals as goal

pub cells_in-requires : goal.cells_in-requires
cells_in-requires g c =
    let w = c.requires.0 in
    let r = c.requires.1 in
    let h = c.requires.2 in
    left_small w h.0.1 r c.as_slice.result.now c.as_slice-2.result.now h.0.0.within (c.as_slice.ensures ∙ h.2) (c.as_slice-2.ensures.value ∙ c.in_ok-left.ensures)

pub returns-clause-after : goal.returns-clause-after
returns-clause-after g c = λ w r h.
    (h, first_number w h.0.1 r c.in_ok-number.number c.as_slice.result.now c.as_slice-2.result.now h.0.0.within (c.as_slice.ensures ∙ h.2) (c.as_slice-2.ensures.value ∙ c.in_ok-left.ensures) c.in_ok-number.ensures)
