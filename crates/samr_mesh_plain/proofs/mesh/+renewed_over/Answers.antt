use Rattle.std.proofs.Common.{◌∙◌, sym, arith}
use Rattle.samr_mesh_plain.proofs.MeshFacts.{renewed_none, finer_from, can_renew, renewed_is}
use Rattle.samr_mesh_plain.proofs.mesh.+renewed_over.Goals as goal

pub renewed_over-requires : goal.renewed_over-requires
renewed_over-requires t c = (
  omega (arith, c.decreases, c.in-Some.ensures.cases.1),
  (
    c.requires.ranks,
    finer_from c.args.problem.now c.args.ranks c.args.number c.args.levels.now c.in-Some.level.now c.in-Some.finer.now c.in-Some.ensures.cases.0 c.requires.levels,
  ),
)

pub renewed-requires : goal.renewed-requires
renewed-requires t c =
    can_renew c.args.problem.now c.args.ranks c.args.step c.args.number c.args.levels.now c.in-Some.level.now c.in-Some.finer.now c.as_slice.result.now c.accepted.ensures c.requires.ranks
    c.in-Some.ensures.cases.0 c.requires.levels (c.as_slice.ensures.value ∙ c.in_ok-above.ensures)

pub returns : goal.returns
returns t c =
    renewed_is c.args.problem.now c.args.ranks c.args.step c.args.number c.args.levels.now c.in-Some.level.now c.in-Some.finer.now c.as_slice.result.now c.in_ok-above.above.items c.in_ok-new.new c.in_ok-levels.levels.items
    c.in-Some.ensures.cases.0 c.as_slice.ensures.value c.in_ok-above.ensures c.in_ok-new.ensures c.in_ok-levels.ensures

pub returns-in_default : goal.returns-in_default
returns-in_default t c =
    c.new.ensures.items ∙ sym (renewed_none c.args.problem.now c.args.ranks c.args.step c.args.number c.args.levels.now c.in_default.ensures.cases)
