use Rattle.std.proofs.Common.{◌∙◌, ap, ◌++◌, filter, nat_eq}
use Rattle.std.specs.Prelude.{List}
use Rattle.samr_level.proofs.Steps.{flat_map_on}
use Rattle.samr_sched.specs.declared.plan.Request.{Request}
use Rattle.samr_linear.proofs.letters.push_fields.Goals as goal

pub loop-field-preserved : goal.loop-field-preserved
loop-field-preserved c =
    flat_map_on c.args.fields.now c.loop-field.field-index c.field-item.result c.loop-field-test.true c.field-item.is
    (λ f. filter (λ q. nat_eq q.edge.head.owner c.args.rank) f.asked) _ _ _ c.loop-field.invariant
    (c.in_ok-push_own.ensures ∙ ap (λ (l : List Request). c.loop-field.out.items ++ filter (λ q. nat_eq q.edge.head.owner c.args.rank) l) c.as_slice.ensures)
