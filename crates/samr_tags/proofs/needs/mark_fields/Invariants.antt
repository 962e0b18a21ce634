use Rattle.samr_tags.specs.CoverParts.{is_needed, AreAdded}
use Rattle.samr_tags.proofs.needs.mark_fields.Given as goal

abbrev pub invariant-loop-field : goal.invariant-loop-field
invariant-loop-field l = AreAdded l.yielded l.marked.items (is_needed l.own l.held)
