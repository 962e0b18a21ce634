use Rattle.samr_link.proofs.Rules.{sends, sees}
use Rattle.samr_link.proofs.inbox.push.Goals as goal

pub push_as-requires-clause-rule : goal.push_as-requires-clause-rule
push_as-requires-clause-rule g c = (sends (λ x. (g.M.Mail.name x).sender) _ _ _ _ c.requires.posts c.requires.sender, sees (λ x. (g.M.Mail.name x).sender) _ _)
