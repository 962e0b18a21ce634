use Rattle.std.proofs.Common.{ap, ◌∙◌, ◌++◌}
use Rattle.std.proofs.lemmas.List.{take_all}
use Rattle.std.specs.Prelude.{List}
use Rattle.std.specs.List.{flat_map}
use Rattle.samr_box.specs.declared.vector.IVec.{IVec}
use Rattle.samr_level.proofs.Steps.{flat_map_on}
use Rattle.samr_bridge.specs.Search.{pairs_at}
use Rattle.samr_bridge.proofs.search.Search.push_windows.Goals as goal

pub loop-s-preserved : goal.loop-s-preserved
loop-s-preserved c =
    let self = c.args.self.now in
    flat_map_on c.deref-s-items.result.now c.loop-s.s-index c.s-item.result c.loop-s-test.true c.s-item.is
    (λ s. pairs_at self.ruler self.heads self.to_west.now c.args.a s) _ _ _ c.loop-s.invariant c.in_ok-push_window.ensures

pub returns : goal.returns
returns c =
    let self = c.args.self.now in
    c.loop-s.invariant
    ∙ ap (λ (ss : List IVec). c.args.out.now.items ++ flat_map (λ s. pairs_at self.ruler self.heads self.to_west.now c.args.a s) ss)
    (take_all c.loop-s.s-index c.deref-s-items.result.now c.loop-s-test.false ∙ c.deref-s-items.ensures.value)
