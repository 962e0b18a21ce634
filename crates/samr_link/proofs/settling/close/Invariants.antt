use Rattle.std.proofs.Common.{length, map}
use Rattle.std.specs.Arc.{arc_value}
use Rattle.std.specs.List.{AllZip}
use Rattle.crossbeam_queue.specs.Passes.{view}
use Rattle.samr_link.specs.Queue.{inbox_id}
use Rattle.samr_link.specs.Settled.{IsBack, AreBack}
use Rattle.samr_link.proofs.settling.close.Given as goal

abbrev pub invariant-ends : goal.invariant-ends
invariant-ends g l = record {
  back : AllZip (IsBack (length (arc_value l.inboxes).items)) (map inbox_id (arc_value l.inboxes).items) l.keepers.items;
  ended : AreBack l.yielded (map view l.keepers.items);
}
