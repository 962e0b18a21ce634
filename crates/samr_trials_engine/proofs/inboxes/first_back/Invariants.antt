use Rattle.std.proofs.Common.{◌≡◌, length}
use Rattle.samr_trials_engine.proofs.inboxes.first_back.Given as goal

abbrev pub invariant-letters : goal.invariant-letters
invariant-letters g l = (l.end.rank ≡ 0) × (length l.end.making ≡ 2)
