use Rattle.samr_mesh_plain.proofs.MeshFacts.{run_starts, run_is, run_goes_on}
use Rattle.samr_mesh_plain.proofs.mesh.mesh_of.Goals as goal

pub loop-before-init : goal.loop-before-init
loop-before-init c = run_starts c.args.problem.now c.args.ranks _ c.in_ok-levels.ensures

pub stepped-requires-clause-mesh : goal.stepped-requires-clause-mesh
stepped-requires-clause-mesh c = run_is c.args.problem.now c.args.ranks c.loop-before.before c.loop-before.levels.items c.accepted.ensures c.requires c.loop-before.invariant

pub loop-before-preserved : goal.loop-before-preserved
loop-before-preserved c = run_goes_on c.args.problem.now c.args.ranks c.loop-before.before c.loop-before.levels.items _ c.loop-before.invariant c.in_ok-levels-2.ensures
