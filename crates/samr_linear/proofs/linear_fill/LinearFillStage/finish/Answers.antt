use Rattle.std.proofs.Common.{◌∙◌, ap, length, arith}
use Rattle.samr_linear.proofs.LinearFillStage.{ready_field}
use Rattle.samr_linear.proofs.linear_fill.LinearFillStage.finish.Goals as goal

pub bounds-fields-0 : goal.bounds-fields-0
bounds-fields-0 g c =
    let e = ap length c.as_slice-fields.ensures in
    let n = c.requires.2.one in
    omega (arith, e, n)

pub fill_field-requires-clause-parts : goal.fill_field-requires-clause-parts
fill_field-requires-clause-parts g c =
    let self = c.args.self in (
      c.requires.0,
      c.requires.1,
      ready_field self.plan self.fields self.strategy.now self.stencil.now self.parcels.items self.senders.items c.requires.0 c.requires.1 c.requires.2
          c.args.held.items c.requires.3 c.in_ok-parcels.parcels.items c.in_ok-parcels.ensures c.in_order-all.result.items c.in_order-all.ensures.same c.in_order-all.ensures.order
          c.as_slice-2.result.now c.as_slice-2.ensures.value c.as_slice-fields.result.now c.as_slice-fields.ensures c.index-fields-0.result c.index-fields-0.is c.as_slice.result.now c.as_slice.ensures,
    )

pub returns : goal.returns
returns g c = λ w rank h e.
    let self = c.args.self in
    c.from_vec.ensures
    ∙ c.in_ok-done.ensures w rank
    (ready_field self.plan self.fields self.strategy.now self.stencil.now self.parcels.items self.senders.items w rank h
    c.args.held.items e c.in_ok-parcels.parcels.items c.in_ok-parcels.ensures c.in_order-all.result.items c.in_order-all.ensures.same c.in_order-all.ensures.order
    c.as_slice-2.result.now c.as_slice-2.ensures.value c.as_slice-fields.result.now c.as_slice-fields.ensures c.index-fields-0.result c.index-fields-0.is c.as_slice.result.now c.as_slice.ensures)
