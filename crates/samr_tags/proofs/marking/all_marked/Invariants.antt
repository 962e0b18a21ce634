use Rattle.std.proofs.Common.{take}
use Rattle.samr_tags.specs.Marking.{AreMarked}
use Rattle.samr_tags.proofs.marking.all_marked.Given as goal

abbrev pub invariant-loop-bx : goal.invariant-loop-bx
invariant-loop-bx l = AreMarked l.fn.frame l.fn.buffer l.fn.rank l.own l.held (take l.bx-index l.boxes) l.fields.items
