use Rattle.std.proofs.Common.{map}
use Rattle.samr_link.specs.Queue.{inbox_id}
use Rattle.samr_link.proofs.Lending.{IsLending}
use Rattle.samr_link.proofs.making.lend_posters.Given as goal

abbrev pub invariant-inboxes : goal.invariant-inboxes
invariant-inboxes g l = IsLending l.rank l.place (map inbox_id l.inboxes.items) l.keepers.items l.posts.items
