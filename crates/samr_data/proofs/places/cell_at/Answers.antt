use Rattle.std.proofs.Common.{rules}
use Rattle.samr_data.specs.Places.{cell_at}
use Rattle.samr_data.proofs.PlaceLaws.{places_fit, cell_at_holds}
use Rattle.samr_data.proofs.places.cell_at.Goals as goal

pub cell_above-requires-clause-plane : goal.cell_above-requires-clause-plane
cell_above-requires-clause-plane c =
    rw (c.length-columns.ensures.value, c.length-rows.ensures.value) (places_fit c.args.bx c.args.n c.length-columns.ensures.whole.order c.requires).k

pub returns-clause-value : goal.returns-clause-value
unfolding cell_at
returns-clause-value c = search rules

pub returns-clause-inside : goal.returns-clause-inside
returns-clause-inside c =
    rw (returns-clause-value c) (cell_at_holds c.args.bx c.args.n c.length-columns.ensures.whole.order c.requires)
