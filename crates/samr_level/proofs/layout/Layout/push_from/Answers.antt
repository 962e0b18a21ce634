use Rattle.std.proofs.Common.{◌++◌, sym, ap, ◌∙◌, append-nil}
use Rattle.std.proofs.lemmas.List.{take_all}
use Rattle.samr_level.specs.Neighbours.{found_at, found_from}
use Rattle.samr_level.proofs.Steps.{flat_map_on}
use Rattle.samr_level.proofs.layout.Layout.push_from.Goals as goal

pub loop-s-init : goal.loop-s-init
unfolding found_from
loop-s-init c = sym (append-nil c.args.edges.now.items)

pub loop-s-preserved : goal.loop-s-preserved
unfolding found_from
loop-s-preserved c =
    flat_map_on c.args.shifts.now c.loop-s.s-index c.s-item.result c.loop-s-test.true c.s-item.is
    (λ s. found_at c.args.self.now c.args.a s) _ _ _ c.loop-s.invariant c.in_ok-push_at.ensures

pub returns : goal.returns
returns c =
    c.loop-s.invariant
    ∙ ap (λ ss. c.args.edges.now.items ++ found_from c.args.self.now ss c.args.a) (take_all c.loop-s.s-index c.args.shifts.now c.loop-s-test.false)
