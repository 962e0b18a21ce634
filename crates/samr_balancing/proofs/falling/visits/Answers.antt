use Rattle.std.proofs.Common.{◌<◌, ◌^◌, ap, sym, subst, ◌∙◌, nat_eq}
use Rattle.std.specs.Prelude.{List, ◌&&◌}
use Rattle.samr_load.specs.Pieces.{load, Placed}
use Rattle.samr_tree.specs.Tree.{depth}
use Rattle.samr_balance.specs.WayDown.{needs_any}
use Rattle.samr_balancing.proofs.HandLaws.{load_small, wanted_small, told_visits, other_visits, told_now, share_is}
use Rattle.samr_balancing.proofs.falling.visits.Goals as goal

pub has_need-requires-clause-fits : goal.has_need-requires-clause-fits
has_need-requires-clause-fits g c =
    let w = c.requires.0 in
    let r = c.requires.1 in
    let k = c.requires.2 in
    let has = c.requires.3 in
    let told = told_now w r _ _ _ c.if-told_down.ensures (c.rank-rank.ensures w.at r k.0.0) (c.ranks-ranks.ensures w.at r k.0.0) has.same_round in
    subst (λ (l : List Placed). load l < 2 ^ 63) (sym c.as_slice.ensures) (load_small w r _ _ _ k.0.0.0 k.0.0.1 _ c.args.hand.now has told)

pub has_need-requires-clause-quotas : goal.has_need-requires-clause-quotas
has_need-requires-clause-quotas g c =
    let w = c.requires.0 in
    let r = c.requires.1 in
    let k = c.requires.2 in
    let has = c.requires.3 in
    let told = told_now w r _ _ _ c.if-told_down.ensures (c.rank-rank.ensures w.at r k.0.0) (c.ranks-ranks.ensures w.at r k.0.0) has.same_round in
    wanted_small w r _ _ _ k.0.0.0 k.0.0.1 _ c.args.hand.now has told c.quota.result
    (share_is w.at r c.quota.result _ _ _ c.quota.ensures k.1 (c.rank-rank.ensures w.at r k.0.0) (c.ranks-ranks.ensures w.at r k.0.0))

pub returns-then-told_down : goal.returns-then-told_down
returns-then-told_down g c = λ w r k has.
    let told = told_now w r _ _ _ c.if-told_down.ensures (c.rank-rank.ensures w.at r k.0.0) (c.ranks-ranks.ensures w.at r k.0.0) has.same_round in
    told_visits w r _ _ _ k.0.0.0 k.0.0.1 _ c.args.hand.now has told c.quota.result c.as_slice.result.now c.has_need.result
    (share_is w.at r c.quota.result _ _ _ c.quota.ensures k.1 (c.rank-rank.ensures w.at r k.0.0) (c.ranks-ranks.ensures w.at r k.0.0))
    c.as_slice.ensures c.has_need.ensures

pub returns : goal.returns
returns g c = λ w r k has.
    let quiet = told_now w r _ _ _ c.if-told_down.ensures (c.rank-rank.ensures w.at r k.0.0) (c.ranks-ranks.ensures w.at r k.0.0) has.same_round in
    other_visits w r _ _ _ k.0.0.0 k.0.0.1 _ c.args.hand.now has quiet c.gives_down.result
    (c.gives_down.ensures ∙ ap (λ n. nat_eq (depth n) c.args.round && needs_any c.args.hand.now.needs) (c.rank-rank.ensures w.at r k.0.0)
    ∙ ap (λ n. nat_eq (depth r) n && needs_any c.args.hand.now.needs) has.same_round)
