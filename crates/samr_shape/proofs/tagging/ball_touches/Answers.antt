use Rattle.std.proofs.Common.{◌≡◌, refl, w64, to_z, of_z, FitsSigned, arith}
use Rattle.std.proofs.lemmas.Int.{ints, to_z-of_z}
use Rattle.samr_shape.proofs.Positions.{wide_image}
use Rattle.samr_shape.proofs.tagging.ball_touches.Goals as goal

pub square_apart-apart-requires : goal.square_apart-apart-requires
square_apart-apart-requires c = rw c.plus.ensures (wide_image c.requires.place c.offset.ensures.small)

pub returns : goal.returns
returns c =
    let low = c.requires.low in
    let high = c.requires.high in
    let fits : FitsSigned w64 c.args.radius = omega (arith, ints) in
    let r : to_z w64 (of_z w64 c.args.radius) ≡ c.args.radius = to_z-of_z w64 c.args.radius fits in
    rw (c.square_apart-apart.ensures, c.plus.ensures, c.offset.ensures.value, c.square_on.ensures.value, c.twice.ensures.value, r) refl
