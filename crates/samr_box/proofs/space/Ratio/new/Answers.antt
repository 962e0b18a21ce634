use Rattle.std.proofs.Common.{refl, arith}
use Rattle.std.proofs.lemmas.Int.{ints}
use Rattle.samr_box.proofs.space.Ratio.new.Goals as goal

pub returns-clause-some : goal.returns-clause-some
returns-clause-some c =
    let low = c.at_most.ensures.means.0 c.if-not-at_most.false in
    let high = c.at_most-2.ensures.means.0 c.if-not-at_most-2.false in (
      λ t. record {
        low = record { k = omega (arith, ints, low.k); j = omega (arith, ints, low.j); i = omega (arith, ints, low.i) };
        high = record { k = omega (arith, ints, high.k); j = omega (arith, ints, high.j); i = omega (arith, ints, high.i) };
      },
      λ h. refl,
    )
