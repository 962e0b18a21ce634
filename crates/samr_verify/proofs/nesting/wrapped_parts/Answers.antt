use Rattle.std.proofs.Common.{ap, ◌∙◌, List}
use Rattle.std.specs.List.{flat_map, filter_map}
use Rattle.samr_box.specs.Corners.{Corners, met}
use Rattle.samr_level.specs.Regions.{boxes_of}
use Rattle.samr_verify.proofs.nesting.wrapped_parts.Goals as goal

parts_by : List Corners → List Corners → List Corners
parts_by boxes windows = flat_map (λ w. filter_map (λ p. met p w) boxes) windows

pub returns : goal.returns
unfolding parts_by
returns c =
    c.in_ok-parts.ensures
    ∙ ap (λ (bs : List Corners). parts_by bs c.as_slice-2.result.now) (c.as_slice.ensures.value ∙ c.in_ok-boxes.ensures.boxes)
    ∙ ap (λ (ws : List Corners). parts_by (boxes_of c.args.region.now) ws) (c.as_slice-2.ensures.value ∙ c.in_ok-windows.ensures)
