use Rattle.std.proofs.Common.{take}
use Rattle.std.specs.Prelude.{false}
use Rattle.samr_sign.specs.Fields.{AreTags}
use Rattle.samr_trials_stages.proofs.covers.empty_fields.Given as goal

abbrev pub invariant-loop-bx : goal.invariant-loop-bx
invariant-loop-bx l = AreTags (take l.bx-index l.boxes) (λ x. false) l.fields.items
