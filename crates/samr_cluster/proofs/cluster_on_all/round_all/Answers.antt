use Rattle.std.proofs.Common.{◌∙◌}
use Rattle.samr_cluster.specs.DecideParts.{decided_state}
use Rattle.samr_cluster.proofs.ClusterOnAllLaws.{reported_on_all, all_results}
use Rattle.samr_cluster.proofs.cluster_on_all.round_all.Goals as goal

pub decide_all-requires-clause-parts : goal.decide_all-requires-clause-parts
decide_all-requires-clause-parts c =
    let x = c.requires.parts.0 in
    let a = c.args in
    let h = c.requires.parts.1 in (
      x,
      reported_on_all x a.d.now a.fields.now a.nodes.items a.width a.to_level a.rule c.in_ok-reported.reported.items h c.requires.same c.in_ok-reported.ensures.len (c.in_ok-reported.ensures.reported x h) c.requires.parts.2,
    )

pub returns : goal.returns
returns c = λ x h e.
    let a = c.args in
    let reported = reported_on_all x a.d.now a.fields.now a.nodes.items a.width a.to_level a.rule c.in_ok-reported.reported.items h c.requires.same c.in_ok-reported.ensures.len (c.in_ok-reported.ensures.reported x h) e in
    all_results (λ x r. decided_state x r) x x.whole.ranks c.in_ok-decided.decided.items (c.in_ok-decided.ensures.len ∙ c.in_ok-reported.ensures.len ∙ h.same_ranks) (c.in_ok-decided.ensures.decided x reported)
