use Rattle.std.proofs.Common.{arith}
use Rattle.std.proofs.lemmas.Int.{ints}
use Rattle.std.specs.Prelude.{pos}
use Rattle.samr_level.proofs.Reaches.{bounded-times, FitsVector-bounded, IsScale-scale_in}
use Rattle.samr_verify.proofs.reach.Reach.new.Goals as goal

pub ratio_from-requires : goal.ratio_from-requires
ratio_from-requires c =
    rw (c.coarsen_cell-head.ensures.value, c.greatest-finest.ensures, c.factors.ensures.value, c.factors-2.ensures.value)
    (IsScale-scale_in c.args.finer.now c.requires c.coarsen_cell-base.ensures.ratio c.coarsen_cell-head.ensures.ratio).head

pub times-requires : goal.times-requires
times-requires c =
    rw (c.coarsen_cell-base.ensures.value, c.greatest-finest.ensures, c.factors.ensures.value, c.factors-2.ensures.value)
    (FitsVector-bounded (pos 274877906944) (omega (arith, ints)) (bounded-times (pos 1073741824) (omega (arith, ints)) c.requires (IsScale-scale_in c.args.finer.now c.requires c.coarsen_cell-base.ensures.ratio c.coarsen_cell-head.ensures.ratio).base))

pub times-requires-2 : goal.times-requires-2
times-requires-2 c =
    rw (c.times.ensures, c.coarsen_cell-base.ensures.value, c.coarsen_cell-head.ensures.value, c.greatest-finest.ensures, c.factors.ensures.value, c.factors-2.ensures.value)
    (FitsVector-bounded (pos 70368744177664) (omega (arith, ints)) (IsScale-scale_in c.args.finer.now c.requires c.coarsen_cell-base.ensures.ratio c.coarsen_cell-head.ensures.ratio).reach)

pub invariant_of-result : goal.invariant_of-result
invariant_of-result c =
    rw (c.ratio_from.ensures, c.times-2.ensures, c.times.ensures, c.coarsen_cell-base.ensures.value, c.coarsen_cell-head.ensures.value, c.greatest-finest.ensures, c.factors.ensures.value, c.factors-2.ensures.value)
    (IsScale-scale_in c.args.finer.now c.requires c.coarsen_cell-base.ensures.ratio c.coarsen_cell-head.ensures.ratio)

pub returns-clause-scale : goal.returns-clause-scale
returns-clause-scale c = invariant_of-result c
