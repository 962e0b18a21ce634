use Rattle.std.proofs.Common.{take}
use Rattle.std.specs.List.{All}
use Rattle.samr_values.specs.Patches.{IsBased}
use Rattle.samr_values.proofs.tests.all_based.Given as goal

abbrev pub invariant-loop-field : goal.invariant-loop-field
invariant-loop-field l = All (λ f. IsBased l.edges f) (take l.field-index l.fields)
