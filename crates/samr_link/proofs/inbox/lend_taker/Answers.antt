use Rattle.samr_link.proofs.Rules.{gives_taker}
use Rattle.samr_link.proofs.inbox.lend_taker.Goals as goal

pub another-requires-clause-rule : goal.another-requires-clause-rule
another-requires-clause-rule g c = gives_taker (λ x. (g.M.Mail.name x).sender) _ _ c.requires.keeps c.requires.takes c.requires.posts
