-- The finest of three levels nests in the middle one that is made under it, which is there.
use Rattle.samr_mesh.proofs.Covers.{keeps_nesting, has_box}
use Rattle.samr_mesh.proofs.laws.covers_keep_nesting.Goals as goal

pub returns-clause-nested : goal.returns-clause-nested
returns-clause-nested c = λ p w next run upper over above. keeps_nesting p w next run upper over above

pub returns-clause-kept : goal.returns-clause-kept
returns-clause-kept c = λ p w next run upper over above. has_box p w next run upper over above
