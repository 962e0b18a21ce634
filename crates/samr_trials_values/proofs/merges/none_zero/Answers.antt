use Rattle.std.proofs.Common.{ℕ, ◌<◌, subst}
use Rattle.std.proofs.lemmas.List.{take_all}
use Rattle.std.proofs.lemmas.List.Elements.{All-more}
use Rattle.std.specs.List.{All}
use Rattle.samr_trials_values.proofs.merges.none_zero.Goals as goal

pub loop-m-preserved : goal.loop-m-preserved
loop-m-preserved c =
    let P : ℕ → Type 0 = λ m. 0 < m in
    All-more P c.args.moduli.now c.loop-m.m-index _ c.loop-m-test.true c.loop-m.invariant (c.is_some.ensures c.if-not-is_some.false)

pub returns : goal.returns
returns c = λ t.
    let P : ℕ → Type 0 = λ m. 0 < m in
    subst (All P) (take_all c.loop-m.m-index c.args.moduli.now c.loop-m-test.false) c.loop-m.invariant
