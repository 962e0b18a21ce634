use Rattle.std.proofs.Common.{length}
use Rattle.samr_link.specs.Queue.{names_posted, names_taken}
use Rattle.samr_link.proofs.OddLemmas.{are_ends, are_fresh}
use Rattle.samr_link.proofs.odd.OddFabricFabric.make_ends.Goals as goal

pub returns-clause-ends : goal.returns-clause-ends
returns-clause-ends g c = are_ends (λ o. o.end) (λ e. e.rank) (λ e. length e.making) (λ e. e.making) _ c.made_odd.result.items c.in_ok-ends.ends.items c.made_odd.ensures c.in_ok-ends.ensures.ends

pub returns-clause-fresh : goal.returns-clause-fresh
returns-clause-fresh g c = are_fresh (λ o. o.end) (names_posted g.M.Mail.name) (names_taken g.M.Mail.name) c.made_odd.result.items c.in_ok-ends.ends.items c.made_odd.ensures c.in_ok-ends.ensures.fresh
