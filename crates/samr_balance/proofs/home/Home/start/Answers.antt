use Rattle.samr_balance.proofs.HomeStage.{begins}
use Rattle.samr_balance.proofs.home.Home.start.Goals as goal

pub returns : goal.returns
returns c = λ w r is.
    begins c.args.rank c.args.ranks c.args.hand.items c.args.cuts.now w r is c.in_piece_order.result.items c.in_ok-olds.olds.items c.in_piece_order.ensures c.in_ok-olds.ensures
