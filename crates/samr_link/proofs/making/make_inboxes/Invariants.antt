use Rattle.std.proofs.Common.{◌≡◌, length, map, All}
use Rattle.std.specs.List.{AllZip}
use Rattle.samr_link.specs.Queue.{inbox_id, IsRoomy, IsKeeper, IsNewTake}
use Rattle.samr_link.proofs.making.make_inboxes.Given as goal

abbrev pub invariant-ranks : goal.invariant-ranks
invariant-ranks g l = record {
  count : length l.inboxes.items ≡ l._rank;
  roomy : All IsRoomy l.inboxes.items;
  keepers : AllZip (IsKeeper 0) (map inbox_id l.inboxes.items) l.keepers.items;
  takers : AllZip IsNewTake (map inbox_id l.inboxes.items) l.takers.items;
}
