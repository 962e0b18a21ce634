use Rattle.std.proofs.Common.{◌+◌, arith, ap, sym, ◌∙◌}
use Rattle.samr_tree.proofs.TreeTotals.{next_at}
use Rattle.samr_msg.specs.PassStops.{loads_of}
use Rattle.samr_counting.proofs.LoadSums.{up_small}
use Rattle.samr_counting.proofs.going_up.UpStepStepLetterBodyClimbTurnClimbingSumUp.end.Goals as goal

pub overflow_add-result : goal.overflow_add-result
overflow_add-result g c =
    let k = c.requires.2 in
    let small = up_small c.requires.0 c.requires.1 k.0.0.1 k.0.0.0.few k.0.0.0.within c.args.self.round k.1.same_round k.1.below in
    omega (arith, small)

pub returns : goal.returns
returns g c = λ w r k gives.
    (k.0, record { same_round = ap (λ n. n + 1) k.1.same_round; same_number = gives ∙ sym (next_at (loads_of w.at) w.round r); below = omega (arith, k.1.below) })
