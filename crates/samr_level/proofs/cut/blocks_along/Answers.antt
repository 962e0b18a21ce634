use Rattle.std.proofs.Common.{◌≡◌, rules}
use Rattle.samr_level.specs.Blocks.{blocks_along}
use Rattle.samr_level.proofs.BlockPlaces.{at_most_few}
use Rattle.samr_level.proofs.cut.blocks_along.Goals as goal

pub returns-clause-small : goal.returns-clause-small
returns-clause-small c =
    let value : c.div_ceil.result ≡ blocks_along c.args.axis c.args.block c.args.bx = search rules in
    at_most_few c.args.axis c.args.block c.args.bx _ c.requires c.length.ensures.whole value
