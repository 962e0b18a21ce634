use Rattle.std.proofs.Common.{sym, ap, ◌∙◌}
use Rattle.std.specs.Prelude.{List}
use Rattle.samr_verify.specs.declared.edges.DueEdge.{DueEdge}
use Rattle.samr_verify.specs.declared.printed.PrintedEdge.{PrintedEdge}
use Rattle.samr_verify.specs.Faults.{or_earlier}
use Rattle.samr_verify.specs.MeshFaults.{edge_fault, edges_due}
use Rattle.samr_verify.proofs.AlikeLaws.{same_fault}
use Rattle.samr_verify.proofs.FoldLaws.{decided_level}
use Rattle.samr_verify.proofs.mesh.or_edge_fault.Goals as goal

pub returns-then-decides_edges : goal.returns-then-decides_edges
returns-then-decides_edges c = sym (decided_level c.args.known c.args.level.now _ (sym c.decides_edges.ensures ∙ c.if-decides_edges.true))

pub returns : goal.returns
returns c =
    let all = edges_due c.args.problem.now c.args.levels.now c.args.l in
    let after = c.args.level.now.after in
    c.or_earlier.ensures
    ∙ ap (or_earlier c.args.known)
    (c.edge_fault.ensures
    ∙ ap (λ (due : List DueEdge). edge_fault after c.as_slice-told.result.now due) c.as_slice.ensures.value
    ∙ same_fault after c.as_slice-told.result.now c.in_ok-due.due.items all c.in_ok-due.ensures
    ∙ ap (λ (told : List PrintedEdge). edge_fault after told all) c.as_slice-told.ensures)
