use Rattle.samr_level.specs.Refs.{Link}
use Rattle.samr_level.proofs.Overlapping.{turned-overlaps}
use Rattle.samr_level.proofs.refs.Edge.turned.Goals as goal

pub returns-clause-overlaps : goal.returns-clause-overlaps
returns-clause-overlaps c =
    let e : Link = record { base = c.self.inside.base; head = c.self.inside.head; shift = c.self.inside.shift } in
    rw (c.opposite.ensures, ← c.self.view_is) (λ frame width base_ratio head_ratio bases heads. turned-overlaps frame width base_ratio head_ratio bases heads e)
