use Rattle.std.proofs.Common.{◌≡◌, sym, ap, ◌∙◌, ◌++◌, map, filter}
use Rattle.std.proofs.lemmas.List.{take_all}
use Rattle.std.specs.Prelude.{◌∷◌, []}
use Rattle.samr_level.specs.Refs.{Link, link}
use Rattle.samr_level.specs.Overlaps.{is_true}
use Rattle.samr_level.proofs.Steps.{picked_on, picked_off}
use Rattle.samr_modify.specs.Found.{taken_by}
use Rattle.samr_modify.proofs.taking.push_taken_by.Goals as goal
use Rattle.samr_modify.proofs.taking.push_taken_by.Goals.{then-is_near+in_ok-push, else-is_near}

pub loop-e-preserved : goal.loop-e-preserved
loop-e-preserved c =
    elim c.if-is_near.branch [
      | then-is_near+in_ok-push w ↦
          let step : c.if-is_near.out.items ≡ c.loop-e.out.items ++ link c.args.b c.e-item.result.head c.e-item.result.shift ∷ [] = rw w.out-is (w.in_ok-push.ensures.items ∙ ap (λ (v : Link). c.loop-e.out.items ++ v ∷ []) c.taken_edge-edge.ensures) in
          picked_on c.args.edges.now c.loop-e.e-index c.e-item.result c.loop-e-test.true c.e-item.is
          (λ e. is_true c.args.ruler.now e) (λ x. link c.args.b x.head x.shift) _ _ _ c.loop-e.invariant (ap (λ (v : Link). is_true c.args.ruler.now v) (sym c.taken_edge-edge.ensures) ∙ sym c.is_near.ensures ∙ w.if-is_near.true) step
      | else-is_near w ↦
          let step : c.if-is_near.out.items ≡ c.loop-e.out.items = rw w.out-is in
          picked_off c.args.edges.now c.loop-e.e-index c.e-item.result c.loop-e-test.true c.e-item.is
          (λ e. is_true c.args.ruler.now e) (λ x. link c.args.b x.head x.shift) _ _ _ c.loop-e.invariant (ap (λ (v : Link). is_true c.args.ruler.now v) (sym c.taken_edge-edge.ensures) ∙ sym c.is_near.ensures ∙ w.if-is_near.false) step
    ]

pub returns : goal.returns
unfolding taken_by
returns c =
    c.loop-e.invariant
    ∙ ap (λ xs. c.args.out.now.items ++ filter (λ e. is_true c.args.ruler.now e) (map (λ x. link c.args.b x.head x.shift) xs))
    (take_all c.loop-e.e-index c.args.edges.now c.loop-e-test.false)
