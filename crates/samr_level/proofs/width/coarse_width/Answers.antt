use Rattle.std.proofs.Common.{arith}
use Rattle.std.proofs.lemmas.Int.{ints}
use Rattle.std.specs.Prelude.{pos}
use Rattle.samr_level.proofs.Reaches.{bounded-plus, bounded-ratio, FitsVector-bounded, rounded_up-covers, rounded_up-least}
use Rattle.samr_level.proofs.width.coarse_width.Goals as goal

pub plus-requires : goal.plus-requires
plus-requires c =
    rw (c.minus-rest.ensures, c.factors.ensures.value, c.alike.ensures)
    (FitsVector-bounded (pos 1073742080) (omega (arith, ints))
    (bounded-plus (pos 1073741824) (pos 256) c.requires (bounded-ratio (rw c.factors.ensures.value at c.factors.ensures.ratio))))

pub returns-clause-covers : goal.returns-clause-covers
returns-clause-covers c =
    rw (c.coarsen_cell.ensures.value, c.plus.ensures, c.minus-rest.ensures, c.factors.ensures.value, c.alike.ensures)
    (rounded_up-covers c.args.w c.args.r c.coarsen_cell.ensures.ratio)

pub returns-clause-least : goal.returns-clause-least
returns-clause-least c =
    rw (c.coarsen_cell.ensures.value, c.plus.ensures, c.minus-rest.ensures, c.factors.ensures.value, c.alike.ensures)
    (λ v h. rounded_up-least c.args.w c.args.r v c.coarsen_cell.ensures.ratio h)
