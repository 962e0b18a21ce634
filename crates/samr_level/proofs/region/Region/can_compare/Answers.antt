use Rattle.std.proofs.Common.{◌↔◌, subst, rules}
use Rattle.std.specs.Prelude.{IsTrue}
use Rattle.samr_level.specs.Regions.{Area, IsArea}
use Rattle.samr_level.specs.Neighbours.{IsWidth}
use Rattle.samr_level.proofs.Reaches.{InRange-width}
use Rattle.samr_level.proofs.region.Region.can_compare.Goals as goal

pub returns-clause-range : goal.returns-clause-range
returns-clause-range c =
    let value : IsTrue c.at_most-2.result ↔ IsWidth c.args.self.now.frame c.args.width = search rules in
    let area : IsArea c.args.self.now = subst (λ (a : Area). IsArea a) c.self.view_is c.self.invariant in
    λ t. InRange-width c.args.self.now.frame c.args.width area.frame (value.0 t)
