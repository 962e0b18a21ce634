use Rattle.std.proofs.Common.{rules, ℕ, ◌≡◌, ◌∙◌, ap}
use Rattle.samr_mesh.specs.Domains.{area_of}
use Rattle.samr_regrid.proofs.base.Base.region.Goals as goal
use Rattle.samr_regrid.proofs.PartsOfLevels.{region_here, is_space_here}

pub refined-requires : goal.refined-requires
refined-requires g c =
    let w = c.requires.0 in
    let r = c.requires.1 in
    let h = c.requires.2 in
    is_space_here _ w.pass _ h.1.can
    (region_here _ w r _ _ _ h.0.same_run (c.in_ok-base.ensures ∙ ap area_of c.problem.ensures) (c.old.ensures w r h) c.ratio_of.ensures)

pub returns : goal.returns
returns g c = λ w r h.
    c.in_ok-region.ensures ∙ region_here _ w r _ _ _ h.0.same_run (c.in_ok-base.ensures ∙ ap area_of c.problem.ensures) (c.old.ensures w r h) c.ratio_of.ensures
