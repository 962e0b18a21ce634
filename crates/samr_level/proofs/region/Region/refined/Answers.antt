use Rattle.std.proofs.Common.{sym, subst, rules}
use Rattle.samr_box.specs.Vector.{IsRatio}
use Rattle.samr_box.specs.Space.{IsSpace, finer}
use Rattle.samr_level.specs.Regions.{Area}
use Rattle.samr_level.proofs.FinerAreas.{all-refined, IsArea-finer}
use Rattle.samr_level.proofs.region.Region.refined.Goals as goal

pub all_refined-requires : goal.all_refined-requires
all_refined-requires c =
    let a : Area = record { frame = c.self.inside.frame; parts = c.self.inside.parts } in
    let ratio : IsRatio c.args.r = search rules in
    let fits : IsSpace (finer a.frame c.args.r) = subst (λ (v : Area). IsSpace (finer v.frame c.args.r)) (sym c.self.view_is) c.requires in
    rw c.as_slice.ensures (all-refined a c.args.r c.self.invariant ratio fits)

pub invariant_of-result : goal.invariant_of-result
invariant_of-result c =
    let a : Area = record { frame = c.self.inside.frame; parts = c.self.inside.parts } in
    let ratio : IsRatio c.args.r = search rules in
    let fits : IsSpace (finer a.frame c.args.r) = subst (λ (v : Area). IsSpace (finer v.frame c.args.r)) (sym c.self.view_is) c.requires in
    rw (c.finer.ensures, c.from_vec.ensures, c.in_ok-parts.ensures, c.as_slice.ensures) (IsArea-finer a c.args.r c.self.invariant ratio fits)
