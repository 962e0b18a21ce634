use Rattle.std.proofs.Common.{arith, ap}
use Rattle.samr_balance.specs.HomeRow.{weight}
use Rattle.samr_balance.proofs.HomeRowLaws.{letter_small}
use Rattle.samr_balance.proofs.home.HomeStage.weight.Goals as goal

pub weight-requires : goal.weight-requires
weight-requires c =
    let s = c.args.self.now in
    let same = ap weight c.as_slice.ensures in
    omega (arith, same, letter_small s.rank s.ranks s.pieces.items s.olds.items c.requires.0 c.requires.1 c.requires.3 c.requires.2 _ c.requires.4)
