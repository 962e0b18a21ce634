use Rattle.std.proofs.Common.{◌∙◌, ap, sym, arith, ◌++◌}
use Rattle.std.proofs.lemmas.List.{take_all}
use Rattle.std.specs.Prelude.{List}
use Rattle.std.specs.List.{flat_map, enumerate_from}
use Rattle.samr_level.specs.Refs.{Link}
use Rattle.samr_sched.specs.declared.plan.FieldPlan.{FieldPlan}
use Rattle.samr_fill.specs.Sending.{field_copies, box_copies}
use Rattle.samr_fill.proofs.Steps.{numbered_step}
use Rattle.samr_linear.proofs.sending.push_box.Goals as goal

pub loop-field-preserved : goal.loop-field-preserved
loop-field-preserved c = (
  numbered_step c.as_slice-fields.result.now c.loop-field.field c.index-fields-field.result c.loop-field-test.true c.index-fields-field.is
      (λ f. field_copies c.args.d.now c.args.to c.args.own.now c.args.place f.0 f.1.copies) c.args.out.now.items _ _ c.loop-field.invariant.0
      (c.in_ok-push_field.ensures
      ∙ ap (λ (l : List Link). c.loop-field.out.items ++ field_copies c.args.d.now c.args.to c.args.own.now c.args.place c.loop-field.field l) c.as_slice-edges.ensures
      ∙ ap (λ (v : FieldPlan). c.loop-field.out.items ++ field_copies c.args.d.now c.args.to c.args.own.now c.args.place c.loop-field.field v.copies) (sym c.index-fields-field.is)),
  omega (arith, c.loop-field-test.true),
)

pub returns : goal.returns
unfolding box_copies
returns c =
    c.loop-field.invariant.0
    ∙ ap (λ (l : List FieldPlan). c.args.out.now.items ++ flat_map (λ f. field_copies c.args.d.now c.args.to c.args.own.now c.args.place f.0 f.1.copies) (enumerate_from 0 l))
    (take_all c.loop-field.field c.as_slice-fields.result.now c.loop-field-test.false ∙ c.as_slice-fields.ensures)
