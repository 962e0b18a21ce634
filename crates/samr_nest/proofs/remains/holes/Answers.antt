use Rattle.std.proofs.Common.{◌∙◌, ap}
use Rattle.samr_box.specs.Corners.{Corners}
use Rattle.samr_level.specs.Refs.{Owned}
use Rattle.samr_nest.specs.Nested.{holes_by}
use Rattle.samr_nest.proofs.NestedBy.{holes_from_edges}
use Rattle.samr_nest.proofs.remains.holes.Goals as goal

pub returns-clause-value : goal.returns-clause-value
returns-clause-value c = λ level edges.
    c.in_ok-holes.ensures.value
    ∙ ap (λ (b : Owned). holes_by c.args.region.now c.args.near.now c.args.width b.bx) c.c.view_is
    ∙ holes_from_edges c.args.region.now level c.args.width c.args.c c.args.near.now c.in_ok-holes.ensures.area c.requires edges
