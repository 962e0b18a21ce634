use Rattle.std.proofs.Common.{arith, ap, ◌∙◌}
use Rattle.samr_load.specs.Laws.{boxes_of}
use Rattle.samr_balancing.specs.Rounds.{homes_at}
use Rattle.samr_balancing.proofs.HandLaws.{inside, is_home}
use Rattle.samr_balancing.proofs.homing.go_home.Goals as goal

pub quota-share-requires : goal.quota-share-requires
quota-share-requires g c =
    let w = c.requires.0 in
    let r = c.requires.1 in
    let k = c.requires.2 in
    omega (arith, inside w r _ _ _ k.0.0.0 k.0.0.1, c.rank-rank.ensures w r k.0.0, c.ranks-ranks.ensures w r k.0.0)

pub returns : goal.returns
returns g c = λ w r k last.
    c.in_ok-stage.ensures (homes_at w) r
    (is_home w r _ _ _ k.0.0.0 k.0.0.1 c.rank-rank.result c.ranks-ranks.result c.into_vec.result.items c.args.hand c.as_slice-3.result.now c.in_ok-own.own.items c.as_slice.result.now
    (c.rank-rank.ensures w r k.0.0) (c.ranks-ranks.ensures w r k.0.0) c.into_vec.ensures last
    (c.as_slice-3.ensures.value ∙ c.in_ok-boxes.ensures ∙ ap boxes_of c.as_slice-2.ensures.value) c.in_ok-own.ensures (c.as_slice.ensures ∙ k.0.2))
