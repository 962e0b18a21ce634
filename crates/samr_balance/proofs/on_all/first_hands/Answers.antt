use Rattle.std.proofs.Common.{arith}
use Rattle.std.specs.Prelude.{unsigned_abs}
use Rattle.samr_balance.specs.Rounds.{going_up}
use Rattle.samr_balance.specs.OnAll.{round_at}
use Rattle.samr_balance.proofs.OnAllLaws.{hands_more}
use Rattle.samr_balance.proofs.on_all.first_hands.Goals as goal

pub each-preserved : goal.each-preserved
each-preserved c =
    let p = c.args.plan.now in
    hands_more (going_up (round_at p.ranks (unsigned_abs p.smallest) p.boxes 0)) c.each.rank c.each.hands.items c.push.new.self.items c.in_ok-first_hand.field-0
    c.each.invariant c.in_ok-first_hand.ensures c.in_ok-push.ensures.items (omega (arith, c.in_ok-push.ensures.len, c.each.invariant.same_ranks))
