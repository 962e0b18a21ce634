use Rattle.std.proofs.Common.{ap}
use Rattle.samr_level.specs.Refs.{Owned}
use Rattle.samr_sched.proofs.FieldLaws.{field_is}
use Rattle.samr_sched.proofs.making.field_plan.Goals as goal

pub returns : goal.returns
returns c =
    field_is c.args.ground.now c.args.near.now c.args.under.now c.args.b c.args.field c.args.width c.grow-wide.result c.b.inside.bx c.frame.result.now
    c.in_ok-inside.inside.items c.from_vec.result c.in_ok-rest.rest.items c.as_slice.result.now c.from_vec-3.result
    c.in_ok-copies.copies.items c.from_vec-2.result c.in_ok-asked.asked.items c.from_vec-4.result
    (ap (λ (v : Owned). v.bx) c.b.view_is) c.grow-wide.ensures.value c.in_ok-inside.ensures.parts c.from_vec.ensures c.frame.ensures
    c.in_ok-copies.ensures c.from_vec-2.ensures c.in_ok-rest.ensures.by_edges c.as_slice.ensures.value c.from_vec-3.ensures
    c.in_ok-asked.ensures c.from_vec-4.ensures
