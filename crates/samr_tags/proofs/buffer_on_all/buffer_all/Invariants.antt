use Rattle.std.proofs.Common.{◌≡◌, ℕ, length, Some, slice_get}
use Rattle.samr_tags.specs.declared.buffer.Buffer.{Buffer}
use Rattle.samr_tags.specs.Buffer.{Tagging}
use Rattle.samr_tags.specs.BufferParts.{HasSeen}
use Rattle.samr_tags.specs.BufferOnAll.{HaveAllSelves}
use Rattle.samr_tags.proofs.buffer_on_all.buffer_all.Given as goal

abbrev pub invariant-each : goal.invariant-each
invariant-each g l =
    (length l.stages.items ≡ l.rank)
    × ((w : Tagging) → HaveAllSelves l.fn.d l.parts l.selves (g.T.Given.is_tagged l.fn.given l.fn.level l.fn.step) l.fn.tag_buffer w → (k : ℕ) (s : Buffer)
    → slice_get l.stages.items k ≡ Some s → HasSeen s.rank s.frame s.buffer s.boxes.items s.own.items s.peers.items w k)
