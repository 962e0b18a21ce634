use Rattle.samr_link.proofs.Rules.{begins}
use Rattle.samr_link.proofs.inbox.make.Goals as goal

pub ruled-requires-clause-rule : goal.ruled-requires-clause-rule
ruled-requires-clause-rule g c = begins (λ x. (g.M.Mail.name x).sender)
