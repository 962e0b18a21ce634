use Rattle.std.proofs.Common.{sym, subst, List}
use Rattle.samr_level.specs.Refs.{Owned}
use Rattle.samr_level.specs.Levels.{IsLevel}
use Rattle.samr_mesh.specs.Domains.{area_at}
use Rattle.samr_mesh.proofs.Meshing.{base_is}
use Rattle.samr_mesh_plain.proofs.mesh.first_mesh.Goals as goal

pub grown_over-requires-clause-level : goal.grown_over-requires-clause-level
grown_over-requires-clause-level c =
    subst (λ (l : List Owned). IsLevel (area_at c.args.problem.now 0) c.args.ranks l) (sym c.in_ok-base.ensures)
    (base_is c.args.problem.now c.args.ranks c.accepted.ensures c.requires)
