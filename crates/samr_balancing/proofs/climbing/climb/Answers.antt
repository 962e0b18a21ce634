use Rattle.std.proofs.Common.{arith, refl}
use Rattle.samr_balance.specs.Rounds.{going_up}
use Rattle.samr_msg.specs.PassStops.{hands_at}
use Rattle.samr_balancing.proofs.HandLaws.{inside, planes, is_part}
use Rattle.samr_balancing.proofs.climbing.climb.Goals as goal

pub quota-share-requires : goal.quota-share-requires
quota-share-requires g c =
    let w = c.requires.0 in
    let r = c.requires.1 in
    let k = c.requires.2 in
    omega (arith, inside w.at r _ _ _ k.0.0.0 k.0.0.1, c.rank-rank.ensures w.at r k.0.0, c.ranks-ranks.ensures w.at r k.0.0)

pub returns : goal.returns
returns g c = λ w r k has.
    c.in_ok-stage.ensures.starts (hands_at w) r
    (is_part w.at r _ _ _ k.0.0.0 k.0.0.1 c.rank-rank.result c.ranks-ranks.result c.args.round w.round c.quota-share.result c.args.kept.now.total
    c.into_vec.result.items c.args.hand.needs _ c.args.hand (going_up (hands_at w) r)
    (c.rank-rank.ensures w.at r k.0.0) (c.ranks-ranks.ensures w.at r k.0.0) has.same_round c.quota-share.ensures k.1 c.into_vec.ensures refl has.same_hand
    (planes w.at r _ _ _ k.0.0.0 k.0.0.1 c.smallest.result (c.smallest.ensures w.at r k.0.0)))
