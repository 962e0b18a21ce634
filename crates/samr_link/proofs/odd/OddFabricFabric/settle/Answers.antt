use Rattle.std.proofs.Common.{[], length}
use Rattle.samr_link.specs.Kept.{kept_views}
use Rattle.samr_link.specs.Queue.{names_posted, names_taken}
use Rattle.samr_link.specs.Settled.{posted_by, taken_of}
use Rattle.samr_link.proofs.OddLemmas.{were_ends, are_journals}
use Rattle.samr_link.proofs.odd.OddFabricFabric.settle.Goals as goal

pub settle-requires : goal.settle-requires
settle-requires g c = were_ends (λ o. o.end) (λ e. e.rank) (λ e. length e.making) (λ e. e.making) _ c.args.ends.items c.made_plain.result.items c.made_plain.ensures c.requires

pub returns-clause-journals : goal.returns-clause-journals
returns-clause-journals g c =
    let name = g.M.Mail.name in
    let kept = kept_views c.settle.new.self.kept in
    are_journals (λ o. o.end) (names_posted name) (names_taken name) (posted_by name kept) (taken_of name kept) (λ to. []) c.args.ends.items c.made_plain.result.items c.made_plain.ensures c.settle.ensures.journals
