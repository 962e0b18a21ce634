use Rattle.samr_balance.proofs.WayUpStage.{goal_is}
use Rattle.samr_balance.proofs.way_up.UpStage.goal.Goals as goal

pub returns : goal.returns
returns c = λ w rank is.
    let s = c.args.self.now in
    let children = c.children-first in
    goal_is s.rank s.ranks s.round s.hand.items s.needs s.quota s.smallest w rank is c.count_told.result c.count_told-2.result
    children.result.0 children.result.1 children.ensures.first children.ensures.second c.count_told.ensures c.count_told-2.ensures
