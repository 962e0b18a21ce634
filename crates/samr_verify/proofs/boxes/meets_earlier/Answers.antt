use Rattle.std.proofs.Common.{ℕ, ap, ◌∙◌, map}
use Rattle.std.specs.Prelude.{List}
use Rattle.samr_box.specs.Corners.{Corners}
use Rattle.samr_find.specs.Places.{meeting}
use Rattle.samr_verify.specs.Deciding.{begins_below}
use Rattle.samr_verify.proofs.Earlier.{earlier_is}
use Rattle.samr_verify.proofs.boxes.meets_earlier.Goals as goal

pub returns : goal.returns
returns c = λ boxes same.
    c.begins_below-earlier.ensures
    ∙ ap (λ (places : List ℕ). begins_below places c.args.i)
    (c.as_slice.ensures.value ∙ c.in_ok-places.ensures ∙ ap (λ (l : List Corners). meeting l c.box_of.result) same ∙ ap (λ (x : Corners). meeting (map (λ a. a.bx) boxes) x) c.box_of.ensures.value)
    ∙ earlier_is boxes c.args.i c.args.b
