use Rattle.std.proofs.Common.{arith}
use Rattle.std.proofs.lemmas.Int.{ints}
use Rattle.samr_level.specs.Blocks.{block_at}
use Rattle.samr_level.proofs.BlockPlaces.{start-bounds, IsBox-block_at}
use Rattle.samr_level.proofs.cut.block_at.Goals as goal

pub times-requires : goal.times-requires
times-requires c =
    let h = start-bounds c.args.block (record { lo = c.bx.inside.lo; hi = c.bx.inside.hi }) c.args.place c.requires.block c.bx.invariant (rw (← c.bx.view_is) at c.requires.place) in
    record { k = omega (arith, ints, h.low.k, h.high.k); j = omega (arith, ints, h.low.j, h.high.j); i = omega (arith, ints, h.low.i, h.high.i) }

pub plus-lo-requires : goal.plus-lo-requires
plus-lo-requires c =
    let h = start-bounds c.args.block (record { lo = c.bx.inside.lo; hi = c.bx.inside.hi }) c.args.place c.requires.block c.bx.invariant (rw (← c.bx.view_is) at c.requires.place) in
    let b = c.bx.invariant in
    rw c.times.ensures
    (record {
      k = omega (arith, ints, h.low.k, h.high.k, b.low.k, b.order.k, b.high.k);
      j = omega (arith, ints, h.low.j, h.high.j, b.low.j, b.order.j, b.high.j);
      i = omega (arith, ints, h.low.i, h.high.i, b.low.i, b.order.i, b.high.i);
    })

pub plus-hi-requires : goal.plus-hi-requires
plus-hi-requires c =
    let h = start-bounds c.args.block (record { lo = c.bx.inside.lo; hi = c.bx.inside.hi }) c.args.place c.requires.block c.bx.invariant (rw (← c.bx.view_is) at c.requires.place) in
    let b = c.bx.invariant in
    let q = c.requires.block in
    rw (c.plus-lo.ensures, c.times.ensures, c.minus.ensures)
    (record {
      k = omega (arith, ints, h.low.k, h.high.k, b.low.k, b.order.k, b.high.k, q.low.k, q.high.k);
      j = omega (arith, ints, h.low.j, h.high.j, b.low.j, b.order.j, b.high.j, q.low.j, q.high.j);
      i = omega (arith, ints, h.low.i, h.high.i, b.low.i, b.order.i, b.high.i, q.low.i, q.high.i);
    })

pub invariant_of-result : goal.invariant_of-result
unfolding block_at
invariant_of-result c =
    rw (c.least.ensures, c.plus-hi.ensures, c.minus.ensures, c.plus-lo.ensures, c.times.ensures)
    (IsBox-block_at c.args.block (record { lo = c.bx.inside.lo; hi = c.bx.inside.hi }) c.args.place c.requires.block c.bx.invariant (rw (← c.bx.view_is) at c.requires.place))

pub returns : goal.returns
unfolding block_at
returns c = rw (c.least.ensures, c.plus-hi.ensures, c.minus.ensures, c.plus-lo.ensures, c.times.ensures, ← c.bx.view_is)
