use Rattle.std.proofs.Common.{map, true, arith, zero-add}
use Rattle.std.proofs.lemmas.List.{length-map}
use Rattle.crossbeam_queue.specs.Passes.{view}
use Rattle.samr_link.specs.Queue.{names_posted, names_taken}
use Rattle.samr_link.specs.Settled.{posted_by, taken_of}
use Rattle.samr_link.proofs.Journals.{journals_from, begins_of, posted_of, taken_by}
use Rattle.samr_link.proofs.queue.settled.Goals as goal

pub returns-in-Some-clause-journals : goal.returns-in-Some-clause-journals
returns-in-Some-clause-journals g c =
    let views = map view c.close.result.items in
    let name = g.M.Mail.name in
    let ends = c.args.ends.items in
    let by_rank = posted_by name views in
    let of_rank = taken_of name views in
    journals_from (λ e. true) (λ e. true) (names_posted name) (names_taken name) by_rank of_rank 0 ends
    (λ k d a below. rw (zero-add k) (posted_of name views ends k d a c.close.ensures.back below)) (λ k d below. rw (zero-add k) (taken_by name views ends k d c.close.ensures.back below))

pub returns-in-Some-clause-begins : goal.returns-in-Some-clause-begins
returns-in-Some-clause-begins g c = λ from to below.
    let views = map view c.close.result.items in
    begins_of g.M.Mail.name views from to c.close.ensures.compared (omega (arith, below, c.close.ensures.count, length-map c.close.result.items view))
