use Rattle.std.proofs.Common.{ap, subst, ◌∙◌, arith}
use Rattle.samr_formats.specs.Formats.{Gives}
use Rattle.samr_formats.specs.Wholes.{read_whole}
use Rattle.samr_formats.proofs.Wholes.{whole_again, is_whole}
use Rattle.samr_formats.proofs.whole.from_bytes.Goals as goal

pub returns-clause-found : goal.returns-clause-found
returns-clause-found g c = is_whole g.T.Format.law c.args.bytes.now c.whole.result (λ i. omega (arith, c.type_inv.bytes i)) c.whole.ensures

pub returns-clause-only : goal.returns-clause-only
returns-clause-only g c = λ x fits e. subst (λ f. Gives (λ y. y) c.whole.result f) (ap (read_whole g.T.Format.reading) e ∙ whole_again g.T.Format.law x fits) c.whole.ensures
