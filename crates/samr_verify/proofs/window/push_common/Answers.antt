use Rattle.std.proofs.Common.{◌++◌, refl, ap, ◌∙◌, arith, List}
use Rattle.std.proofs.lemmas.List.{take_all}
use Rattle.std.specs.List.{filter_map}
use Rattle.samr_box.specs.Corners.{Corners, met}
use Rattle.samr_fill.proofs.Steps.{filter_map_more}
use Rattle.samr_verify.proofs.window.push_common.Goals as goal

pub loop-p-preserved : goal.loop-p-preserved
loop-p-preserved c =
    filter_map_more c.args.boxes.now c.loop-p.p-index c.p-item.result (omega arith) c.p-item.is (λ (p : Corners). met p c.args.w.now) c.args.out.now.items c.loop-p.out.items
    c.push_met.new.out.items c.loop-p.invariant (met c.p-item.result c.args.w.now) refl c.in_ok-push_met.ensures

pub returns : goal.returns
returns c =
    c.loop-p.invariant
    ∙ ap (λ (l : List Corners). c.args.out.now.items ++ filter_map (λ (p : Corners). met p c.args.w.now) l) (take_all c.loop-p.p-index c.args.boxes.now (omega (arith, c.loop-p-test.false)))
