use Rattle.std.proofs.Common.{◌≡◌, length, map, All, true}
use Rattle.std.specs.Arc.{arc_value}
use Rattle.std.specs.List.{AllZip}
use Rattle.samr_link.specs.Ends.{AreEndsFrom, IsFresh}
use Rattle.samr_link.specs.Queue.{inbox_id, IsKeeper, names_posted, names_taken}
use Rattle.samr_link.proofs.making.make_all.Given as goal

abbrev pub invariant-ranks : goal.invariant-ranks
invariant-ranks g l = record {
  rank : l.rank ≡ length l.yielded;
  count : length l.ends.items ≡ length l.yielded;
  keepers : AllZip (IsKeeper l.rank) (map inbox_id (arc_value l.inboxes).items) l.keepers.items;
  ends : AreEndsFrom (λ e. e.rank) (λ e. length e.making) (λ e. e.making) (map inbox_id (arc_value l.inboxes).items) 0 l.ends.items;
  fresh : All (IsFresh (λ e. true) (λ e. true) (names_posted g.M.Mail.name) (names_taken g.M.Mail.name)) l.ends.items;
}
