use Rattle.samr_find.proofs.Edges.{IsBox-numbers}
use Rattle.samr_find.proofs.edge.numbers_of.Goals as goal

pub invariant_of-result : goal.invariant_of-result
invariant_of-result c = rw (c.number_of.ensures, c.number_of-2.ensures) (IsBox-numbers c.requires c.b.invariant)
