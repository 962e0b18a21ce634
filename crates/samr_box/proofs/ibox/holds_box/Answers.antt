use Rattle.std.proofs.Common.{◌≡◌, rules}
use Rattle.samr_box.specs.Corners.{holds_box}
use Rattle.samr_box.proofs.CellSets.{holds_box-means}
use Rattle.samr_box.proofs.ibox.holds_box.Goals as goal

pub returns-clause-means : goal.returns-clause-means
returns-clause-means c =
    let value : c.at_most-2.result ≡ holds_box c.args.b c.args.part = search rules in
    rw (value, ← c.b.view_is, ← c.part.view_is)
    (holds_box-means (record { lo = c.b.inside.lo; hi = c.b.inside.hi }) (record { lo = c.part.inside.lo; hi = c.part.inside.hi }) c.part.invariant.order)
