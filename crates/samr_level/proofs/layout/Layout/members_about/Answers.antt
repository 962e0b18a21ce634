use Rattle.std.proofs.Common.{ap, ◌∙◌, filter}
use Rattle.std.specs.Prelude.{List}
use Rattle.samr_box.specs.Corners.{Corners, meets}
use Rattle.samr_level.specs.Blocks.{blocks_in, with_owners}
use Rattle.samr_level.specs.Neighbours.{Layout, about}
use Rattle.samr_level.proofs.layout.Layout.members_about.Goals as goal

pub returns : goal.returns
returns c =
    let i = c.self.inside in
    let l : Layout = record { frame = i.frame; boxes = i.boxes; block = i.block; ranks = i.ranks; width = i.width } in
    c.in_ok-members.ensures
    ∙ ap (λ (w : Corners). filter (λ b. meets w b.bx) (with_owners l.ranks (blocks_in l.block c.as_slice.result.now))) c.about-window.ensures
    ∙ ap (λ (bs : List Corners). filter (λ b. meets (about l c.args.b c.args.s) b.bx) (with_owners l.ranks (blocks_in l.block bs))) c.as_slice.ensures
    ∙ ap (λ (m : Layout). filter (λ b. meets (about m c.args.b c.args.s) b.bx) (with_owners m.ranks (blocks_in m.block m.boxes))) c.self.view_is
