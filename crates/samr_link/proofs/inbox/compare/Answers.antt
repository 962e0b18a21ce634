use Rattle.samr_link.proofs.Rules.{balances}
use Rattle.samr_link.proofs.inbox.compare.Goals as goal

pub learn_as-requires-clause-rule : goal.learn_as-requires-clause-rule
learn_as-requires-clause-rule g c = balances (λ x. (g.M.Mail.name x).sender) _ _
