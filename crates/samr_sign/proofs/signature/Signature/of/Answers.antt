use Rattle.std.proofs.Common.{subst, sym, arith}
use Rattle.samr_sign.specs.Counts.{Sign, IsSign}
use Rattle.samr_sign.specs.Fields.{tagged_in}
use Rattle.samr_sign.proofs.Tallies.{tally_most}
use Rattle.samr_sign.proofs.Sums.{IsSign-sign, same_sign}
use Rattle.samr_sign.proofs.signature.Signature.of.Goals as goal

pub planes_of-requires-clause-few : goal.planes_of-requires-clause-few
planes_of-requires-clause-few c = omega (arith, tally_most (tagged_in c.args.fields.now) c.args.bx)

pub planes_of-requires-2-clause-few : goal.planes_of-requires-2-clause-few
planes_of-requires-2-clause-few c = omega (arith, tally_most (tagged_in c.args.fields.now) c.args.bx)

pub planes_of-requires-3-clause-few : goal.planes_of-requires-3-clause-few
planes_of-requires-3-clause-few c = omega (arith, tally_most (tagged_in c.args.fields.now) c.args.bx)

pub invariant_of-result : goal.invariant_of-result
invariant_of-result c =
    let t = tagged_in c.args.fields.now in
    subst (λ (s : Sign). IsSign s) (sym (same_sign c.in_ok-i.ensures.counts c.in_ok-j.ensures.counts c.in_ok-k.ensures.counts))
    (IsSign-sign t c.args.bx c.in_ok-k.ensures.whole (omega (arith, tally_most t c.args.bx)))
