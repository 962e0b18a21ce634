use Rattle.samr_link.proofs.Rules.{ends_poster}
use Rattle.samr_link.proofs.inbox.end_poster.Goals as goal

pub absorb-requires-clause-rule : goal.absorb-requires-clause-rule
absorb-requires-clause-rule g c = ends_poster (λ x. (g.M.Mail.name x).sender) _ _ _ _ c.requires.keeps c.requires.posts c.requires.poster c.requires.next
