use Rattle.std.proofs.Common.{◌≡◌, take}
use Rattle.samr_values.specs.Merging.{merges}
use Rattle.samr_values.proofs.merging.merges_of.Given as goal

abbrev pub invariant-loop-field : goal.invariant-loop-field
invariant-loop-field l = l.merges.items ≡ take l.field (merges l.step l.rules l.moduli)
