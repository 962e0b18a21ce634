use Rattle.std.proofs.Common.{ℕ, ◌+◌, ap, ◌∙◌, arith, sum_by}
use Rattle.std.proofs.lemmas.List.{take_all}
use Rattle.std.proofs.lemmas.List.Sums.{sum_by_more, sum_by_more_le}
use Rattle.samr_stage.specs.declared.stage.Held.{Held}
use Rattle.samr_tree.proofs.SumLemmas.{summed_held}
use Rattle.samr_tree.proofs.sum_up.SumUpStage.finish.Goals as goal

pub overflow_add-total : goal.overflow_add-total
overflow_add-total c =
    let self = c.args.self in
    let r = c.requires in
    let items = c.deref-letter-items.result.now in
    let more = sum_by_more_le (λ (held : Held ℕ). held.body) items c.each.letter-index (record { sender = 0; body = 0 }) c.each-test.true in
    let all = summed_held self.rank self.ranks self.round self.number r.0 r.1 r.2 items (c.deref-letter-items.ensures.value ∙ r.3) in
    omega (arith, more, all, c.each.invariant, r.2.fits)

pub each-preserved : goal.each-preserved
each-preserved c =
    let more = sum_by_more (λ (held : Held ℕ). held.body) c.deref-letter-items.result.now c.each.letter-index (record { sender = 0; body = 0 }) c.each-test.true in
    omega (arith, more, c.each.invariant)

pub returns : goal.returns
returns c = λ w rank is held.
    let self = c.args.self in
    let items = c.deref-letter-items.result.now in
    let whole = ap (sum_by (λ (held : Held ℕ). held.body)) (take_all c.each.letter-index items c.each-test.false) in
    c.each.invariant ∙ ap (λ n. self.number + n) whole ∙ summed_held self.rank self.ranks self.round self.number w rank is items (c.deref-letter-items.ensures.value ∙ held)
