use Rattle.std.proofs.Common.{ap, sym, ◌∙◌, ◌++◌, filter, nat_eq}
use Rattle.std.proofs.lemmas.List.{take_all}
use Rattle.std.specs.Prelude.{List, Bool}
use Rattle.std.specs.List.{flat_map}
use Rattle.samr_level.proofs.Searches.{filter-flat_map}
use Rattle.samr_level.proofs.Steps.{flat_map_on}
use Rattle.samr_sched.specs.declared.plan.Request.{Request}
use Rattle.samr_sched.specs.declared.plan.FieldPlan.{FieldPlan}
use Rattle.samr_sched.proofs.asking.push_fields.Goals as goal

pub loop-f-preserved : goal.loop-f-preserved
loop-f-preserved c =
    let test : Request → Bool = λ q. nat_eq q.edge.head.owner c.args.to in
    flat_map_on c.args.fields.now c.loop-f.f-index c.f-item.result c.loop-f-test.true c.f-item.is
    (λ (f : FieldPlan). filter test f.asked) c.args.out.now.items c.loop-f.out.items c.push_asked.new.out.items c.loop-f.invariant
    (c.in_ok-push_asked.ensures ∙ ap (λ (l : List Request). c.loop-f.out.items ++ filter test l) c.as_slice.ensures)

pub returns : goal.returns
returns c =
    let out = c.args.out.now.items in
    let test : Request → Bool = λ q. nat_eq q.edge.head.owner c.args.to in
    c.loop-f.invariant
    ∙ ap (λ (l : List FieldPlan). out ++ flat_map (λ f. filter test f.asked) l) (take_all c.loop-f.f-index c.args.fields.now c.loop-f-test.false)
    ∙ ap (λ (l : List Request). out ++ l) (sym (filter-flat_map test (λ (f : FieldPlan). f.asked) c.args.fields.now))
