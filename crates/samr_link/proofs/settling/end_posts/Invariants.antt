use Rattle.std.proofs.Common.{◌≡◌, length, map}
use Rattle.samr_link.specs.Queue.{inbox_id}
use Rattle.samr_link.proofs.Returning.{IsEnding}
use Rattle.samr_link.proofs.settling.end_posts.Given as goal

abbrev pub invariant-posts : goal.invariant-posts
invariant-posts g l = record {
  place : l.place ≡ length l.yielded;
  ending : IsEnding (length l.inboxes.items) (map inbox_id l.inboxes.items) l.fn.keepers.items l.fn.posts.items l.place l.keepers.items;
}
