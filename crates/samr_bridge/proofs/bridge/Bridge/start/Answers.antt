use Rattle.std.proofs.Common.{ap, ◌∙◌, ◌++◌}
use Rattle.std.specs.Prelude.{List}
use Rattle.samr_level.specs.Refs.{Link}
use Rattle.samr_level.specs.Overlaps.{scale_in}
use Rattle.samr_bridge.specs.Found.{found_by}
use Rattle.samr_bridge.specs.BridgeRow.{other_owners}
use Rattle.samr_bridge.proofs.BridgeStage.{begins}
use Rattle.samr_bridge.proofs.bridge.Bridge.start.Goals as goal

pub returns : goal.returns
returns c = λ w r h.
    let east = c.args.east.now in
    let west = c.args.west.now in
    let n = scale_in c.finer_frame-frame.result c.args.width east.forth.base_ratio west.forth.head_ratio in
    begins c.args.rank c.args.ranks c.args.d.now east west c.args.width w r h c.finer_frame-frame.result _ _ _ c.finer_frame-frame.ensures
    (c.in_ok-found.ensures
    ∙ ap (λ (l : List Link). found_by n l c.as_slice-to_west.result.now) c.as_slice-to_east.ensures
    ∙ ap (λ (l : List Link). found_by n east.back.edges l) c.as_slice-to_west.ensures)
    (c.in_ok-other_owners.ensures
    ∙ ap (λ (l : List Link). other_owners c.args.rank (l ++ c.as_slice-to_west.result.now)) c.as_slice-to_east.ensures
    ∙ ap (λ (l : List Link). other_owners c.args.rank (east.back.edges ++ l)) c.as_slice-to_west.ensures)
    (c.in_ok-other_owners-2.ensures
    ∙ ap (λ (l : List Link). other_owners c.args.rank (l ++ c.as_slice-2.result.now)) c.as_slice.ensures
    ∙ ap (λ (l : List Link). other_owners c.args.rank (east.forth.edges ++ l)) c.as_slice-2.ensures)
