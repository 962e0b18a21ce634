use Rattle.samr_link.proofs.Rules.{gets, sees}
use Rattle.samr_link.proofs.inbox.pop.Goals as goal

pub pop_as-requires-clause-rule : goal.pop_as-requires-clause-rule
pop_as-requires-clause-rule g c = (gets (λ x. (g.M.Mail.name x).sender) _ _ c.requires.takes, sees (λ x. (g.M.Mail.name x).sender) _ _)
