use Rattle.samr_tree.proofs.TellLemmas.{goal_is}
use Rattle.samr_tree.proofs.tell_down.TellDownStage.goal.Goals as goal

pub returns : goal.returns
returns c = λ w rank is.
    let self = c.args.self.now in
    goal_is self.rank self.ranks self.round self.number w rank is c.count_of.result c.told_down.result c.count_of.ensures c.told_down.ensures
