use Rattle.samr_tree.proofs.TellLemmas.{says_children}
use Rattle.samr_tree.proofs.tell_down.TellDownStage.letters.Goals as goal

pub returns-clause-letters : goal.returns-clause-letters
returns-clause-letters c = λ w rank is.
    let self = c.args.self.now in
    let children = c.children-first in
    says_children self.rank self.ranks self.round self.number w rank is c.tell-2.new.letters.items c.tell.new.letters.items c.new-letters.result.items children.result.0 children.result.1 c.new-letters.ensures.items children.ensures.first children.ensures.second c.in_ok-tell.ensures c.in_ok-tell-2.ensures
