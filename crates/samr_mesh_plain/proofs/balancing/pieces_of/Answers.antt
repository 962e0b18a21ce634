use Rattle.std.proofs.Common.{◌∙◌, ◌<◌, ◌^◌, sym, subst, List}
use Rattle.samr_level.specs.Refs.{Owned}
use Rattle.samr_load.specs.Balanced.{cells_in}
use Rattle.samr_mesh_plain.proofs.CutFacts.{kept_smallest, few_left}
use Rattle.samr_mesh_plain.proofs.balancing.pieces_of.Goals as goal

pub balanced-requires-clause-smallest : goal.balanced-requires-clause-smallest
balanced-requires-clause-smallest c = kept_smallest _ c.problem.invariant

pub balanced-requires-clause-fits : goal.balanced-requires-clause-fits
balanced-requires-clause-fits c =
    subst (λ (l : List Owned). cells_in l < 2 ^ 63) (sym (c.as_slice.ensures.value ∙ c.in_ok-boxes.ensures)) (few_left c.args.problem.now c.args.w.now c.accepted.ensures c.requires)
