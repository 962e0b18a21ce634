use Rattle.std.proofs.Common.{sym}
use Rattle.samr_level.proofs.BlockNumbers.{length-blocks_of}
use Rattle.samr_level.proofs.blocks.block_count.Goals as goal

pub returns-clause-count : goal.returns-clause-count
returns-clause-count c =
    rw (c.from-i.ensures, c.from-j.ensures, c.from-k.ensures, c.blocks_along.ensures.value, c.blocks_along-2.ensures.value, c.blocks_along-3.ensures.value) (sym (length-blocks_of c.args.block c.args.bx))
