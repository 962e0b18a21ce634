use Rattle.std.proofs.Common.{suc, ◌+◌, ◌++◌, sym, ap, ◌∙◌, take}
use Rattle.std.specs.Prelude.{Bool, [], if◌then◌else◌}
use Rattle.samr_verify.specs.MeshFaults.{edges_to, edges_down, edges_due}
use Rattle.samr_box.specs.Space.{is_zero}
use Rattle.samr_verify.proofs.AlikeLaws.{three_parts}
use Rattle.samr_verify.proofs.due.edges_due.Goals as goal

pub returns : goal.returns
unfolding edges_due
returns c =
    let p = c.args.problem.now in
    let levels = c.args.levels.now in
    let l = c.args.l in
    let all = edges_to p levels l l ++ edges_down p levels l ++ edges_to p levels l (l + 1) in
    three_parts c.args.most c.new-out.result.items c.push_edges.new.out.items c.push_down.new.out.items c.push_up.new.out.items (edges_to p levels l l) (edges_down p levels l) (edges_to p levels l (l + 1))
    c.new-out.ensures.items c.in_ok-push_edges.ensures c.in_ok-push_down.ensures c.in_ok-push_up.ensures
    ∙ ap (λ (t : Bool). take (suc c.args.most) (if t then [] else all)) (sym (ap is_zero (sym c.width_of.ensures) ∙ sym c.is_zero.ensures ∙ c.if-is_zero.false))
