use Rattle.std.proofs.Common.{◌≡◌, rules}
use Rattle.samr_level.specs.Regions.{is_inside}
use Rattle.samr_level.proofs.Domains.{is_inside-means}
use Rattle.samr_level.proofs.region.Region.inside.Goals as goal

pub returns-clause-means : goal.returns-clause-means
returns-clause-means c =
    let value : c.has_cell.result ≡ is_inside c.args.self.now c.args.x = search rules in
    rw value (is_inside-means c.args.self.now c.args.x)
