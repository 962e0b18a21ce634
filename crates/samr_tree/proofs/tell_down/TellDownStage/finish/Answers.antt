use Rattle.std.proofs.Common.{◌∙◌}
use Rattle.samr_tree.proofs.TellLemmas.{has_told, has_own}
use Rattle.samr_tree.proofs.tell_down.TellDownStage.finish.Goals as goal

pub returns-in_default : goal.returns-in_default
returns-in_default c = λ w rank is held.
    let self = c.args.self in
    has_own self.rank self.ranks self.round self.number w rank is c.deref.result.now (c.deref.ensures.value ∙ held) c.in_default.ensures.value

pub returns : goal.returns
returns c = λ w rank is held.
    let self = c.args.self in
    has_told self.rank self.ranks self.round self.number w rank is c.deref.result.now _ (c.deref.ensures.value ∙ held) c.in-Some.ensures.value
