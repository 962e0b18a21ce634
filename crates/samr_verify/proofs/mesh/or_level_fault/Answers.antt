use Rattle.std.proofs.Common.{ap, ◌∙◌}
use Rattle.samr_verify.specs.declared.fault.Fault.{Fault}
use Rattle.std.specs.Prelude.{Option}
use Rattle.samr_mesh.specs.Domains.{level0_of}
use Rattle.samr_verify.specs.declared.ground.Ground.{Ground}
use Rattle.samr_verify.specs.Faults.{or_earlier, unless}
use Rattle.samr_verify.specs.MeshFaults.{ground_of, has_counts, is_nested, box_faults, edges_due, edge_fault}
use Rattle.samr_verify.proofs.FoldLaws.{in_turn}
use Rattle.samr_verify.proofs.mesh.or_level_fault.Goals as goal

pub returns : goal.returns
returns c =
    let p = c.args.problem.now in
    let levels = c.args.levels.now in
    let l = c.args.l in
    let level = c.args.level.now in
    let nested = unless (is_nested p levels l) 5 level.line in
    let edges = edge_fault level.after level.edges (edges_due p levels l) in
    c.in_ok-edges.ensures
    ∙ ap (λ (o : Option Fault). or_earlier o edges)
    (c.in_ok-found.ensures
    ∙ ap (λ (o : Option Fault). or_earlier o (box_faults c.in_ok-g.g level)) (c.in_ok-nested.ensures ∙ ap (λ (o : Option Fault). or_earlier o nested) c.or_count_fault-counted.ensures))
    ∙ ap (λ (g : Ground). or_earlier (or_earlier (or_earlier (or_earlier c.args.known (unless (has_counts l g.base level) 4 level.line)) nested) (box_faults g level)) edges) c.in_ok-g.ensures
    ∙ in_turn c.args.known (unless (has_counts l (level0_of p c.args.ranks) level) 4 level.line) nested (box_faults (ground_of p c.args.ranks l) level) edges
