use Rattle.std.proofs.Common.{arith, ◌<◌, ◌^◌}
use Rattle.std.proofs.lemmas.Int.{ints}
use Rattle.std.specs.Prelude.{unsigned_abs}
use Rattle.samr_load.specs.Balanced.{cells_in}
use Rattle.samr_balance.proofs.OnAllLaws.{turned}
use Rattle.samr_balance.proofs.on_all.go_down.Goals as goal

pub each-init : goal.each-init
each-init c =
    let p = c.args.plan.now in
    let s = unsigned_abs p.smallest in
    let some : 0 < s = omega (arith, ints, p.some) in
    let few : cells_in p.boxes < 2 ^ 63 = omega (arith, p.all, p.fits) in
    turned p.ranks s p.boxes p.ranked some p.owned few c.args.climbed.items c.requires
