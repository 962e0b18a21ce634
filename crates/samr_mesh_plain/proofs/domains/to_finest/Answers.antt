use Rattle.samr_mesh_plain.proofs.LevelFacts.{quotient_fits}
use Rattle.samr_mesh_plain.proofs.domains.to_finest.Goals as goal

pub quotient-requires : goal.quotient-requires
quotient-requires c =
    quotient_fits c.args.problem.now c.finest_of.result c.args.level c.ratio_to.result c.ratio_to-2.result c.accepted.ensures c.finest_of.ensures c.requires c.ratio_to.ensures c.ratio_to-2.ensures
