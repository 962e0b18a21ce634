use Rattle.std.proofs.Common.{◌≡◌, ◌+◌, arith, ap, sym, ◌∙◌, subst, false}
use Rattle.samr_tree.specs.TreeSum.{goes_up}
use Rattle.samr_tree.proofs.TreeTotals.{stays_up}
use Rattle.samr_msg.specs.PassStops.{loads_of}
use Rattle.samr_counting.proofs.LoadSums.{up_small, loads_length}
use Rattle.samr_counting.proofs.going_up.UpStepStepLetterBodyClimbTurnClimbingSumUp.skip.Goals as goal

pub overflow_add-result : goal.overflow_add-result
overflow_add-result g c =
    let h = c.requires.2 in
    let small = up_small c.requires.0 c.requires.1 h.0.0.1 h.0.0.0.few h.0.0.0.within c.args.input.round h.1.same_round h.1.below in
    omega (arith, small)

pub returns-clause-after : goal.returns-clause-after
returns-clause-after g c = λ w r h silent.
    let still = subst (λ n. goes_up n w.round r ≡ false) (sym (loads_length w.at)) silent in
    (h.0, record { same_round = ap (λ n. n + 1) h.1.same_round; same_number = h.1.same_number ∙ sym (stays_up (loads_of w.at) w.round r still); below = omega (arith, h.1.below) })
