use Rattle.std.proofs.Common.{ap}
use Rattle.samr_level.specs.Refs.{Owned}
use Rattle.samr_sched.proofs.KeptRows.{rows_made}
use Rattle.samr_sched.proofs.rows.field_rows.Goals as goal

pub returns : goal.returns
returns c =
    rows_made c.args.frame.now c.args.below.now c.args.step c.args.base c.args.field c.args.p.now c.base.inside.bx c.grow-wide.result
    c.as_slice.result.now c.in_ok-rows.rows.items c.as_slice-2.result.now c.in_ok-edges.edges.items c.as_slice-4.result.now
    c.as_slice-3.result.now c.in_ok-coarse.coarse.items c.as_slice-5.result.now c.extend_from_slice.new.self.items
    c.as_slice-6.result.now c.outside_row.result c.push.new.self.items c.as_slice-7.result.now c.in_ok-kept.kept.items
    (ap (λ (v : Owned). v.bx) c.base.view_is) c.grow-wide.ensures.value c.as_slice.ensures c.in_ok-rows.ensures
    c.as_slice-2.ensures c.in_ok-edges.ensures c.as_slice-3.ensures c.as_slice-4.ensures.value
    c.in_ok-coarse.ensures c.as_slice-5.ensures.value c.in_ok-extend_from_slice.ensures.items
    c.as_slice-6.ensures c.outside_row.ensures c.in_ok-push.ensures.items c.as_slice-7.ensures.value
    c.in_ok-kept.ensures
