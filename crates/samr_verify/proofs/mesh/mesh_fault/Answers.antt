use Rattle.std.proofs.Common.{◌≡◌, arith, ap, ◌∙◌, map, List, length}
use Rattle.std.proofs.lemmas.List.{take_all}
use Rattle.std.specs.List.{enumerate_from}
use Rattle.samr_verify.specs.declared.printed.PrintedLevel.{PrintedLevel}
use Rattle.samr_verify.specs.Faults.{first_of}
use Rattle.samr_verify.specs.MeshFaults.{level_fault, mesh_fault}
use Rattle.samr_verify.proofs.Steps.{first_step}
use Rattle.samr_verify.proofs.mesh.mesh_fault.Goals as goal

pub loop-l-preserved : goal.loop-l-preserved
loop-l-preserved c =
    first_step c.as_slice-levels.result.now c.loop-l.l c.index-levels-l.result (omega arith) c.index-levels-l.is (level_fault c.args.problem.now c.args.ranks c.as_slice-levels.result.now)
    c.loop-l.first c.in_ok-next.next c.loop-l.invariant c.in_ok-next.ensures

pub returns : goal.returns
unfolding mesh_fault
returns c =
    let levels = c.as_slice-levels.result.now in
    let all : length levels ≡ c.loop-l.l = omega (arith, c.loop-l-test.false, c.loop-l.auto.l-end) in
    c.loop-l.invariant
    ∙ ap (λ (l : List PrintedLevel). first_of (map (level_fault c.args.problem.now c.args.ranks levels) (enumerate_from 0 l))) (take_all c.loop-l.l levels (omega (arith, all)))
    ∙ ap (λ (l : List PrintedLevel). first_of (map (level_fault c.args.problem.now c.args.ranks l) (enumerate_from 0 l))) c.as_slice-levels.ensures
