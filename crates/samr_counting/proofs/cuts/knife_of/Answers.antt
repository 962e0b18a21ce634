use Rattle.samr_problem.proofs.Assembled.{kept}
use Rattle.samr_counting.proofs.cuts.knife_of.Goals as goal

pub returns : goal.returns
returns g c = λ w r h. record {
  same_region = c.in_ok-region.ensures w r h;
  same_nest = c.nest.ensures w r h;
  same_largest = kept (record { sfits = c.largest.type_inv }) (c.largest.ensures w r h);
}
