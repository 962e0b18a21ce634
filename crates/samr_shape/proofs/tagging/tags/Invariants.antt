use Rattle.std.proofs.Common.{◌≡◌, false, take}
use Rattle.std.specs.List.{list_any}
use Rattle.samr_shape.specs.Tags.{is_tagged_by}
use Rattle.samr_shape.proofs.tagging.tags.Given as goal

abbrev pub invariant-loop-shape : goal.invariant-loop-shape
invariant-loop-shape l = list_any (is_tagged_by l.finest l.fine l.step) (take l.shape-index l.shapes) ≡ false
