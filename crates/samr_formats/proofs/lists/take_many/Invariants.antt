use Rattle.std.proofs.Common.{◌≡◌, ◌-◌}
use Rattle.samr_formats.specs.Formats.{read_many}
use Rattle.samr_formats.proofs.Loops.{with_front}
use Rattle.samr_formats.proofs.lists.take_many.Given as goal

abbrev pub invariant-loop : goal.invariant-loop
invariant-loop g l = with_front l.list.items (read_many g.T.Format.reading (l.count - l.counter) l.rest) ≡ read_many g.T.Format.reading l.count l.bytes
