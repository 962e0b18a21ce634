use Rattle.samr_nest.proofs.StartLaws.{parts_starts}
use Rattle.samr_nest.proofs.laws.starts_in_parts.Goals as goal

pub returns : goal.returns
returns c = λ a b c' some none. parts_starts a b c' some none
