use Rattle.samr_nest.proofs.LeftLaws.{holes_are}
use Rattle.samr_nest.proofs.remains.holes_of.Goals as goal

pub returns-clause-value : goal.returns-clause-value
returns-clause-value c =
    holes_are c.args.region.now c.args.near.now c.args.width c.args.c c.grow-around.result c.frame.result.now
    c.in_ok-start.start.items c.in_ok-images.images.items c.as_slice.result.now c.in_ok-holes.holes.items
    c.grow-around.ensures.value c.frame.ensures c.in_ok-start.ensures.parts c.in_ok-images.ensures c.as_slice.ensures.value c.in_ok-holes.ensures.value
