use Rattle.samr_tree.proofs.SumLemmas.{goal_is}
use Rattle.samr_tree.proofs.sum_up.SumUpStage.goal.Goals as goal

pub returns : goal.returns
returns c = λ w rank is.
    let self = c.args.self.now in
    let children = c.children-first in
    goal_is self.rank self.ranks self.round self.number w rank is c.count_told.result c.count_told-2.result children.result.0 children.result.1 children.ensures.first children.ensures.second c.count_told.ensures c.count_told-2.ensures
