use Rattle.std.proofs.Common.{◌∙◌, subst}
use Rattle.samr_mesh.specs.Grounds.{HasLevel0}
use Rattle.samr_mesh.proofs.Regions.{has_level0, area_with}
use Rattle.samr_report.proofs.level0_text.region_of.Goals as goal

pub unwrap-requires : goal.unwrap-requires
unwrap-requires c =
    c.new-region.ensures.some.1 (area_with _ _ (c.into_vec.ensures ∙ c.in_ok-parts.ensures) (has_level0 _ c.problem.invariant))

pub returns-clause-level0 : goal.returns-clause-level0
returns-clause-level0 c = subst (λ q. HasLevel0 q) c.problem.view_is (has_level0 _ c.problem.invariant)

pub returns-in_err-parts-clause-level0 : goal.returns-in_err-parts-clause-level0
returns-in_err-parts-clause-level0 c = subst (λ q. HasLevel0 q) c.problem.view_is (has_level0 _ c.problem.invariant)
