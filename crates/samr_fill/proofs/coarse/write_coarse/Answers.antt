use Rattle.std.proofs.Common.{◌≡◌, ◌∙◌, ap}
use Rattle.samr_box.specs.Vector.{times}
use Rattle.samr_level.specs.Refs.{Link}
use Rattle.samr_fill.proofs.Pieces.{coarse_fixes}
use Rattle.samr_fill.proofs.coarse.write_coarse.Goals as goal

pub returns : goal.returns
returns g c = λ v each.
    let parcel = c.args.parcel.now in
    coarse_fixes c.args.plan.now c.args.strategy.now c.args.rest.now parcel c.in_ok-source.source c.offset-offset.result v c.args.patch.now c.write_pieces.new.patch
    c.requires.coarse c.in_ok-source.ensures.bx c.in_ok-source.ensures.values
    (c.offset-offset.ensures.value ∙ ap (λ (e : Link). times e.shift c.args.plan.now.below.size) c.edge.view_is)
    (c.write_pieces.ensures v) each
