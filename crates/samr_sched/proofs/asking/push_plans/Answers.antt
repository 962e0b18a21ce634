use Rattle.std.proofs.Common.{ap, sym, ◌∙◌, ◌++◌, filter, nat_eq}
use Rattle.std.proofs.lemmas.List.{take_all}
use Rattle.std.specs.Prelude.{List, Bool}
use Rattle.std.specs.List.{flat_map}
use Rattle.samr_level.proofs.Searches.{filter-flat_map}
use Rattle.samr_level.proofs.Steps.{flat_map_on}
use Rattle.samr_sched.specs.declared.plan.Request.{Request}
use Rattle.samr_sched.specs.declared.plan.FieldPlan.{FieldPlan}
use Rattle.samr_sched.specs.declared.plan.BoxPlan.{BoxPlan}
use Rattle.samr_sched.proofs.asking.push_plans.Goals as goal

pub loop-p-preserved : goal.loop-p-preserved
loop-p-preserved c =
    let test : Request → Bool = λ q. nat_eq q.edge.head.owner c.args.to in
    flat_map_on c.args.plans.now c.loop-p.p-index c.p-item.result c.loop-p-test.true c.p-item.is
    (λ (p : BoxPlan). filter test (flat_map (λ f. f.asked) p.fields)) c.args.out.now.items c.loop-p.out.items c.push_fields.new.out.items c.loop-p.invariant
    (c.in_ok-push_fields.ensures ∙ ap (λ (l : List FieldPlan). c.loop-p.out.items ++ filter test (flat_map (λ f. f.asked) l)) c.as_slice.ensures)

pub returns : goal.returns
returns c =
    let out = c.args.out.now.items in
    let test : Request → Bool = λ q. nat_eq q.edge.head.owner c.args.to in
    c.loop-p.invariant
    ∙ ap (λ (l : List BoxPlan). out ++ flat_map (λ p. filter test (flat_map (λ f. f.asked) p.fields)) l) (take_all c.loop-p.p-index c.args.plans.now c.loop-p-test.false)
    ∙ ap (λ (l : List Request). out ++ l) (sym (filter-flat_map test (λ (p : BoxPlan). flat_map (λ f. f.asked) p.fields) c.args.plans.now))
