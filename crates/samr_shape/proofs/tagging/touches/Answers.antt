use Rattle.std.proofs.Common.{◌≡◌, refl, w64, to_z, of_z, FitsSigned, arith}
use Rattle.std.proofs.lemmas.Int.{ints, to_z-of_z}
use Rattle.samr_shape.specs.Tags.{touches, IsBall}
use Rattle.samr_shape.proofs.tagging.touches.Goals as goal

pub returns-in-Ball : goal.returns-in-Ball
unfolding touches
returns-in-Ball c =
    let ball : IsBall c.in-Ball.at c.in-Ball.velocity c.in-Ball.radius = rw c.in-Ball.is at c.requires in
    let low = ball.radius_low in
    let high = ball.radius_high in
    let fits : FitsSigned w64 c.in-Ball.radius = omega (arith, ints) in
    let r : to_z w64 (of_z w64 c.in-Ball.radius) ≡ c.in-Ball.radius = to_z-of_z w64 c.in-Ball.radius fits in
    rw (c.in-Ball.is, c.ball_touches.ensures, c.position-in-Ball.ensures.value, r) refl
