use Rattle.std.proofs.Common.{◌∙◌}
use Rattle.samr_fill.proofs.FillStage.{ready_fields}
use Rattle.samr_fill.proofs.fill.FillStage.finish.Goals as goal

pub fill_fields-requires : goal.fill_fields-requires
fill_fields-requires g c =
    let self = c.args.self in (
      c.requires.0,
      c.requires.1,
      ready_fields self.plan self.own self.strategies.now self.parcels.items self.senders.items c.requires.0 c.requires.1 c.requires.2
          c.args.held.items c.requires.3 c.in_ok-parcels.parcels.items c.in_ok-parcels.ensures c.in_order-all.result.items c.in_order-all.ensures.same c.in_order-all.ensures.order c.as_slice-2.result.now c.as_slice-2.ensures.value c.as_slice.result.now c.as_slice.ensures,
    )

pub returns : goal.returns
returns g c = λ w rank h e.
    let self = c.args.self in
    c.from_vec.ensures
    ∙ c.in_ok-done.ensures w rank
    (ready_fields self.plan self.own self.strategies.now self.parcels.items self.senders.items w rank h
    c.args.held.items e c.in_ok-parcels.parcels.items c.in_ok-parcels.ensures c.in_order-all.result.items c.in_order-all.ensures.same c.in_order-all.ensures.order c.as_slice-2.result.now c.as_slice-2.ensures.value c.as_slice.result.now c.as_slice.ensures)
