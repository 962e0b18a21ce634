use Rattle.std.proofs.Common.{◌∙◌}
use Rattle.samr_mesh.proofs.Regions.{has_level0, area_with}
use Rattle.samr_verify.proofs.mesh.region_of.Goals as goal

pub unwrap-requires : goal.unwrap-requires
unwrap-requires c =
    c.new-region.ensures.some.1 (area_with _ _ (c.into_vec.ensures ∙ c.in_ok-parts.ensures) (has_level0 _ c.problem.invariant))
