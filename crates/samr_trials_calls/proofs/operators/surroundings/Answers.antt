use Rattle.std.proofs.Common.{sym, subst, arith}
use Rattle.std.proofs.lemmas.Int.{ints}
use Rattle.std.specs.Prelude.{pos}
use Rattle.samr_box.specs.declared.vector.IVec.{IVec}
use Rattle.samr_box.specs.Vector.{alike, AtMost}
use Rattle.samr_box.specs.Corners.{Corners, IsBox, grown}
use Rattle.samr_box.specs.Space.{Space, whole}
use Rattle.samr_trials_calls.proofs.operators.surroundings.Goals as goal

about : (d : Space) (w : IVec) → AtMost (alike (pos 1)) d.size → AtMost d.size (alike (pos 1000)) → AtMost (alike (pos 0)) w → AtMost w (alike (pos 1000)) → IsBox (grown (whole d) w)
about d w some small positive narrow = record {
  low = record { k = omega (arith, ints, narrow.k); j = omega (arith, ints, narrow.j); i = omega (arith, ints, narrow.i) };
  order = record { k = omega (arith, ints, some.k, positive.k); j = omega (arith, ints, some.j, positive.j); i = omega (arith, ints, some.i, positive.i) };
  high = record { k = omega (arith, ints, small.k, narrow.k); j = omega (arith, ints, small.j, narrow.j); i = omega (arith, ints, small.i, narrow.i) };
}

pub grow-requires : goal.grow-requires
grow-requires c =
    let some : AtMost (alike (pos 1)) c.args.d.now.size = subst (λ (s : Space). AtMost (alike (pos 1)) s.size) c.d.view_is c.d.invariant.low in
    subst (λ (b : Corners). IsBox (grown b c.args.width)) (sym c.whole.ensures.value) (about c.args.d.now c.args.width some c.requires.small c.requires.positive c.requires.narrow)
