use Rattle.std.proofs.Common.{◌≡◌, sym, ap, ◌∙◌, ◌++◌, map, filter}
use Rattle.std.proofs.lemmas.List.{take_all}
use Rattle.std.specs.Prelude.{◌∷◌, []}
use Rattle.samr_level.specs.Refs.{link}
use Rattle.samr_level.specs.Overlaps.{is_true}
use Rattle.samr_level.proofs.Steps.{picked_on, picked_off}
use Rattle.samr_level.proofs.overlap.push_images.Goals as goal
use Rattle.samr_level.proofs.overlap.push_images.Goals.{then-is_true+in_ok-push, else-is_true}

pub loop-s-preserved : goal.loop-s-preserved
loop-s-preserved c =
    elim c.if-is_true.branch [
      | then-is_true+in_ok-push w ↦
          let step : c.if-is_true.edges.items ≡ c.loop-s.edges.items ++ link c.args.a c.args.b c.s-item.result ∷ [] = rw w.edges-is w.in_ok-push.ensures.items in
          picked_on c.args.shifts.now c.loop-s.s-index c.s-item.result c.loop-s-test.true c.s-item.is
          (λ e. is_true c.args.ruler.now e) (λ s. link c.args.a c.args.b s) _ _ _ c.loop-s.invariant (sym c.is_true.ensures ∙ w.if-is_true.true) step
      | else-is_true w ↦
          let step : c.if-is_true.edges.items ≡ c.loop-s.edges.items = rw w.edges-is in
          picked_off c.args.shifts.now c.loop-s.s-index c.s-item.result c.loop-s-test.true c.s-item.is
          (λ e. is_true c.args.ruler.now e) (λ s. link c.args.a c.args.b s) _ _ _ c.loop-s.invariant (sym c.is_true.ensures ∙ w.if-is_true.false) step
    ]

pub returns : goal.returns
returns c =
    c.loop-s.invariant
    ∙ ap (λ ss. c.args.edges.now.items ++ filter (λ e. is_true c.args.ruler.now e) (map (λ s. link c.args.a c.args.b s) ss))
    (take_all c.loop-s.s-index c.args.shifts.now c.loop-s-test.false)
