use Rattle.std.proofs.Common.{◌≤◌, arith, subst, take}
use Rattle.std.proofs.lemmas.List.{take_all}
use Rattle.std.proofs.lemmas.List.Elements.{All-more, All-weaker}
use Rattle.std.specs.List.{All}
use Rattle.samr_box.specs.Corners.{Corners}
use Rattle.samr_sign.specs.Laws.{depth}
use Rattle.samr_cluster.proofs.cluster_on_all.rounds_for.Goals as goal

pub loop-b-preserved : goal.loop-b-preserved
loop-b-preserved c =
    let P : Corners → Type 0 = λ b. depth b ≤ c.greater-most.result in
    let one : P c.b-item.result = omega (arith, c.depth.ensures, c.greater-most.ensures.second) in
    All-more P c.args.roots.now c.loop-b.b-index c.b-item.result c.loop-b-test.true
    (All-weaker (λ b. depth b ≤ c.loop-b.most) P (λ b h. omega (arith, h, c.greater-most.ensures.first)) (take c.loop-b.b-index c.args.roots.now) c.loop-b.invariant)
    (subst P c.b-item.is one)

pub returns : goal.returns
returns c = subst (All (λ b. depth b ≤ c.loop-b.most)) (take_all c.loop-b.b-index c.args.roots.now c.loop-b-test.false) c.loop-b.invariant
