use Rattle.std.proofs.Common.{◌≡◌, ◌∙◌, sym, subst, arith}
use Rattle.samr_cluster.specs.ClusterOnAll.{in_rounds}
use Rattle.samr_cluster.proofs.ClusterOnAllLaws.{at_round, nodes_first, rounds_first, nodes_long, told_on_all, nodes_go_on, rounds_go_on}
use Rattle.samr_cluster.proofs.cluster_on_all.all_rounds.Goals as goal

pub each-init : goal.each-init
each-init c = λ w h.
    let same = h.same_ranks in
    let ranks : c.as_rank.result ≡ w.ranks = omega (arith, c.as_rank.ensures, same) in
    (nodes_first w c.as_rank.result c.args.roots.now c.in_ok-nodes.nodes.items c.in_ok-nodes.ensures ranks h.same_roots, c.new-rounds.ensures.items ∙ sym (rounds_first w))

pub round_all-requires-clause-few : goal.round_all-requires-clause-few
round_all-requires-clause-few c =
    let w = c.requires.parts.0 in
    let h = c.requires.parts.1 in
    let same = h.same_ranks in
    let long = nodes_long w c.each._round c.each.nodes.items (c.each.invariant w h).0 in
    omega (arith, long, same, c.requires.few)

pub round_all-requires-clause-same : goal.round_all-requires-clause-same
round_all-requires-clause-same c =
    let w = c.requires.parts.0 in
    let h = c.requires.parts.1 in
    h.same_ranks ∙ sym (nodes_long w c.each._round c.each.nodes.items (c.each.invariant w h).0)

pub round_all-requires-clause-parts : goal.round_all-requires-clause-parts
round_all-requires-clause-parts c =
    let w = c.requires.parts.0 in
    let h = c.requires.parts.1 in
    let a = c.args in
    (at_round w c.each._round, told_on_all a.d.now a.fields.now a.roots.now a.rule a.width a.to_level w h c.each._round c.each.nodes.items (c.each.invariant w h).0, h.same_rule)

pub each-preserved : goal.each-preserved
each-preserved c = λ w h.
    let a = c.args in
    let before = c.each.invariant w h in
    let n = c.each._round in
    let decided = c.in_ok-decided.ensures (at_round w n) (told_on_all a.d.now a.fields.now a.roots.now a.rule a.width a.to_level w h n c.each.nodes.items before.0) h.same_rule in (
      nodes_go_on w n c.in_ok-decided.decided.items c.in_ok-nodes-2.nodes.items decided c.in_ok-nodes-2.ensures.nodes,
      rounds_go_on w n c.in_ok-decided.decided.items c.each.rounds.items c.next_nodes.new.rounds.items decided before.1 c.in_ok-nodes-2.ensures.rounds,
    )

pub returns : goal.returns
returns c = λ w h.
    let all : c.each._round ≡ c.args.number = omega (arith, c.each-test.false, c.each.auto._round-end) in
    subst (λ n. c.each.rounds.items ≡ in_rounds w n) all (c.each.invariant w h).1
