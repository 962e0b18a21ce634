use Rattle.std.proofs.Common.{subst, map}
use Rattle.std.proofs.lemmas.List.{take_all}
use Rattle.std.proofs.lemmas.List.Elements.{All-more}
use Rattle.std.specs.List.{All}
use Rattle.samr_box.specs.Lists.{Member}
use Rattle.samr_level.specs.Refs.{Link}
use Rattle.samr_values.proofs.tests.all_start.Goals as goal

pub loop-e-preserved : goal.loop-e-preserved
loop-e-preserved c =
    let P : Link → Type 0 = λ e. Member e.base.bx (map (λ p. p.bx) c.args.patches.now) in
    All-more P c.args.edges.now c.loop-e.e-index c.e-item.result c.loop-e-test.true c.loop-e.invariant (subst P c.e-item.is (c.starts_first.ensures c.if-not-starts_first.false))

pub returns : goal.returns
returns c = λ t.
    let P : Link → Type 0 = λ e. Member e.base.bx (map (λ p. p.bx) c.args.patches.now) in
    subst (All P) (take_all c.loop-e.e-index c.args.edges.now c.loop-e-test.false) c.loop-e.invariant
