use Rattle.std.specs.Prelude.{unsigned_abs}
use Rattle.samr_balance.specs.Rounds.{going_up}
use Rattle.samr_balance.specs.OnAll.{round_at, AreHands}
use Rattle.samr_balance.proofs.on_all.first_hands.Given as goal

abbrev pub invariant-each : goal.invariant-each
invariant-each l = AreHands (going_up (round_at l.plan.ranks (unsigned_abs l.plan.smallest) l.plan.boxes 0)) l.rank l.hands.items
