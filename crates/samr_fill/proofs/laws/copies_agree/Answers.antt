use Rattle.samr_fill.proofs.ValueLaws.{copies_agree}
use Rattle.samr_fill.proofs.laws.copies_agree.Goals as goal

pub returns : goal.returns
returns c = copies_agree
