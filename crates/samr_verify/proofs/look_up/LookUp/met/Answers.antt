use Rattle.std.proofs.Common.{ℕ, ap, ◌∙◌}
use Rattle.std.specs.Prelude.{List}
use Rattle.std.specs.List.{flat_map}
use Rattle.samr_box.specs.Corners.{Corners}
use Rattle.samr_find.specs.Places.{meeting}
use Rattle.samr_verify.specs.Nearby.{at_place, if_meets}
use Rattle.samr_verify.proofs.MeetingLaws.{met_is}
use Rattle.samr_verify.proofs.look_up.LookUp.met.Goals as goal

pub returns : goal.returns
returns c =
    let b = c.args.b in
    c.in_ok-boxes.ensures
    ∙ ap (λ (places : List ℕ). flat_map (λ place. at_place (λ a. if_meets b a) c.as_slice.result.now place) places) (c.as_slice-2.ensures.value ∙ c.in_ok-places.ensures)
    ∙ ap (λ (boxes : List Corners). flat_map (λ place. at_place (λ a. if_meets b a) boxes place) (meeting c.args.self.now b)) (c.as_slice.ensures.value ∙ c.self.view_is)
    ∙ met_is c.args.self.now b
