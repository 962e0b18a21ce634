use Rattle.std.proofs.Common.{◌∙◌, ap}
use Rattle.samr_tree.proofs.SumLemmas.{says_nothing, says_number, has_parent}
use Rattle.samr_tree.proofs.sum_up.SumUpStage.letters.Goals as goal
use Rattle.samr_tree.proofs.sum_up.SumUpStage.letters.Goals.{in-Some+in_ok-push, in_default}

pub returns-then-not-tells_up-clause-letters : goal.returns-then-not-tells_up-clause-letters
returns-then-not-tells_up-clause-letters c = λ w rank is.
    let self = c.args.self.now in
    says_nothing self.rank self.ranks self.round self.number w rank is c.new-letters.result.items c.new-letters.ensures.items c.if-not-tells_up.ensures

pub returns-clause-letters : goal.returns-clause-letters
returns-clause-letters c = λ w rank is.
    let self = c.args.self.now in
    elim c.match-parent.branch [
      | in-Some+in_ok-push v ↦
          says_number self.rank self.ranks self.round self.number w rank is c.match-parent.letters.items c.new-letters.result.items v.in-Some.above (ap (λ l. l.items) v.letters-is ∙ v.in_ok-push.ensures.items) c.new-letters.ensures.items c.if-not-tells_up.ensures v.in-Some.ensures
      | in_default v ↦
          absurd (has_parent self.rank self.ranks self.round self.number w rank is c.if-not-tells_up.ensures v.in_default.ensures)
    ]
