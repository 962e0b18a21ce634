use Rattle.std.proofs.Common.{◌∙◌, subst, sym}
use Rattle.std.specs.Prelude.{List}
use Rattle.samr_ops.specs.declared.rules.Rules.{Rules}
use Rattle.samr_trials_fills.specs.Ready.{AreReady}
use Rattle.samr_trials_fills.proofs.strategies.fill_made.Goals as goal

pub fill_prepared-requires : goal.fill_prepared-requires
fill_prepared-requires g c =
    let same = c.as_slice.ensures.value ∙ c.in_ok-list.ensures in
    let w = c.requires.ready.0 in
    (w, subst (λ (l : List Rules). AreReady c.args.ready l w) (sym same) c.requires.ready.1)

pub returns : goal.returns
returns g c = λ w h.
    let same = c.as_slice.ensures.value ∙ c.in_ok-list.ensures in
    c.in_ok-outs.ensures w (subst (λ (l : List Rules). AreReady c.args.ready l w) (sym same) h)
