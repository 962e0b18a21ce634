use Rattle.samr_modify.proofs.Moves.{whole, kept, is_kept}
use Rattle.samr_modify.proofs.Ends.{all_forth, all_back}
use Rattle.samr_modify.proofs.PieceLaws.{pieces_are}
use Rattle.samr_modify.proofs.law.modify_law.Goals as goal

pub returns-clause-whole : goal.returns-clause-whole
returns-clause-whole c = whole

pub returns-clause-edges : goal.returns-clause-edges
returns-clause-edges c = λ w h a n s. (kept w h a n s, is_kept w h a n s)

pub returns-clause-pieces : goal.returns-clause-pieces
returns-clause-pieces c = pieces_are

pub returns-clause-forth : goal.returns-clause-forth
returns-clause-forth c = all_forth

pub returns-clause-back : goal.returns-clause-back
returns-clause-back c = all_back
