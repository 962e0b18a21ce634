use Rattle.std.proofs.Common.{◌≡◌, ◌<◌, ℕ, length, map}
use Rattle.std.specs.List.{AllZip}
use Rattle.crossbeam_queue.specs.Passes.{view}
use Rattle.samr_link.specs.Inbox.{IsCompared}
use Rattle.samr_link.specs.Queue.{inbox_id}
use Rattle.samr_link.specs.Settled.{IsBack, view_at}
use Rattle.samr_link.proofs.settling.compare_all.Given as goal

abbrev pub invariant-inboxes : goal.invariant-inboxes
invariant-inboxes g l = record {
  same : map view l.keepers.items ≡ map view l.fn.keepers.items;
  back : AllZip (IsBack (length l.inboxes.items)) (map inbox_id l.inboxes.items) l.keepers.items;
  compared : (k : ℕ) → k < l.place → IsCompared (λ x. (g.M.Mail.name x).sender) (view_at (map view l.keepers.items) k);
}
