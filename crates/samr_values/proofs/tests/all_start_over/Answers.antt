use Rattle.std.proofs.Common.{subst}
use Rattle.std.proofs.lemmas.List.{take_all}
use Rattle.std.proofs.lemmas.List.Elements.{All-more}
use Rattle.std.specs.List.{All}
use Rattle.samr_level.specs.Refs.{Link}
use Rattle.samr_values.specs.Coarsen.{IsRefinement}
use Rattle.samr_values.proofs.tests.all_start_over.Goals as goal

pub loop-e-preserved : goal.loop-e-preserved
loop-e-preserved c =
    let P : Link → Type 0 = λ e. IsRefinement c.args.step e.base.bx in
    All-more P c.args.edges.now c.loop-e.e-index c.e-item.result c.loop-e-test.true c.loop-e.invariant (subst P c.e-item.is (c.starts_over.ensures c.if-not-starts_over.false))

pub returns : goal.returns
returns c = λ t.
    let P : Link → Type 0 = λ e. IsRefinement c.args.step e.base.bx in
    subst (All P) (take_all c.loop-e.e-index c.args.edges.now c.loop-e-test.false) c.loop-e.invariant
