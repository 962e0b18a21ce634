use Rattle.std.proofs.Common.{arith, ◌∙◌, ◌<◌, ◌^◌, refl}
use Rattle.std.proofs.lemmas.Int.{ints}
use Rattle.std.specs.Int.{w64}
use Rattle.std.specs.Prelude.{FitsSigned, unsigned_abs}
use Rattle.samr_load.specs.Balanced.{cells_in}
use Rattle.samr_load.proofs.PlainSteps.{quota_is}
use Rattle.samr_balance.specs.Rounds.{going_down}
use Rattle.samr_balance.specs.OnAll.{round_at}
use Rattle.samr_balance.proofs.OnAllLaws.{part, handed}
use Rattle.samr_balance.proofs.on_all.start_down.Goals as goal

pub returns : goal.returns
returns c =
    let p = c.args.plan.now in
    let s = unsigned_abs p.smallest in
    let w = round_at p.ranks s p.boxes c.args.round in
    let fits : FitsSigned w64 p.smallest = omega (arith, ints) in
    let few : cells_in p.boxes < 2 ^ 63 = omega (arith, p.all, p.fits) in
    c.in_ok-stage.ensures.starts w c.args.rank
    (part p.ranks s p.boxes p.ranked (omega (arith, ints, p.some)) p.owned few c.args.hand.now c.args.round c.args.rank c.requires.rank
    c.into_vec-pieces.result.items (c.into_vec-pieces.ensures ∙ c.in_ok-copied.ensures) _ refl c.quota-share.result
    (quota_is p.total p.boxes p.ranks c.args.rank c.quota-share.result p.all c.quota-share.ensures) _ (handed p.smallest fits p.some) (going_down w c.args.rank) c.requires.hand)
