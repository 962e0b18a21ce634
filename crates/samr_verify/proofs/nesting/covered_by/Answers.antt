use Rattle.std.proofs.Common.{ap, ◌∙◌, subst}
use Rattle.std.specs.Prelude.{List}
use Rattle.samr_box.specs.Corners.{Corners, IsBox}
use Rattle.samr_verify.specs.MeshFaults.{covered}
use Rattle.samr_verify.proofs.MeetingLaws.{covered_near}
use Rattle.samr_verify.proofs.nesting.covered_by.Goals as goal

pub returns : goal.returns
returns c =
    c.in_ok-all.ensures
    ∙ ap (λ (boxes : List Corners). covered boxes c.args.b) (c.as_slice.ensures.value ∙ c.in_ok-near.ensures)
    ∙ covered_near c.args.below.now c.args.b (subst (λ (v : Corners). IsBox v) c.b.view_is c.b.invariant) c.requires
