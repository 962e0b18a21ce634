use Rattle.std.proofs.Common.{◌∙◌}
use Rattle.samr_boxlist.specs.Covers.{held}
use Rattle.samr_nest.proofs.LeftLaws.{left_is, left_once, nest_range}
use Rattle.samr_nest.proofs.remains.left.Goals as goal

pub gaps-requires : goal.gaps-requires
gaps-requires c = nest_range c.args.region.now.frame c.args.nest c.in_ok-holes.ensures.area.frame c.requires.nest

pub returns-clause-value : goal.returns-clause-value
returns-clause-value c =
    left_is c.args.region.now c.args.near.now c.args.nest c.args.c c.in_ok-boxes.boxes.items c.as_slice-2.result.now
    c.in_ok-holes.holes.items c.as_slice.result.now c.in_ok-gaps.gaps.items c.as_slice-3.result.now c.in_ok-inner.inner.items c.in_ok-rest.rest.items
    c.in_ok-boxes.ensures.boxes c.as_slice-2.ensures.value c.in_ok-holes.ensures.value c.as_slice.ensures.value
    c.in_ok-gaps.ensures c.as_slice-3.ensures.value c.in_ok-inner.ensures.value c.in_ok-rest.ensures.value

pub returns-clause-once : goal.returns-clause-once
returns-clause-once c = λ x.
    left_once c.args.region.now x c.args.c c.as_slice-2.result.now c.in_ok-inner.inner.items c.in_ok-rest.rest.items (held x c.as_slice-3.result.now)
    c.in_ok-boxes.ensures.area (c.as_slice-2.ensures.value ∙ c.in_ok-boxes.ensures.boxes) (c.in_ok-inner.ensures.cells x) (c.in_ok-rest.ensures.cells x)
