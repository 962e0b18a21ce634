use Rattle.std.proofs.Common.{arith, ap, ◌∙◌, ◌<◌, ◌^◌}
use Rattle.std.proofs.lemmas.Int.{ints}
use Rattle.std.specs.Prelude.{unsigned_abs, List}
use Rattle.samr_level.specs.Refs.{Owned}
use Rattle.samr_level.specs.Levels.{own}
use Rattle.samr_load.specs.Balanced.{cells_in}
use Rattle.samr_load.specs.Laws.{boxes_of}
use Rattle.samr_balance.proofs.OnAllLaws.{first_is}
use Rattle.samr_balance.proofs.on_all.first_hand.Goals as goal

pub returns : goal.returns
returns c =
    let p = c.args.plan.now in
    let s = unsigned_abs p.smallest in
    let some : 0 < s = omega (arith, ints, p.some) in
    let few : cells_in p.boxes < 2 ^ 63 = omega (arith, p.all, p.fits) in
    first_is p.ranks s p.boxes p.ranked some p.owned few c.args.rank c.requires c.as_slice-2.result.now
    (c.as_slice-2.ensures.value ∙ c.in_ok-cuts.ensures ∙ ap (λ (l : List Owned). boxes_of (own c.args.rank l)) c.as_slice.ensures)
    c.from_vec.result (c.from_vec.ensures ∙ c.in_ok-pieces.ensures)
