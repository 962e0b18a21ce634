use Rattle.std.proofs.Common.{◌≡◌, ℕ, length, Some, slice_get}
use Rattle.std.specs.Prelude.{false, List}
use Rattle.samr_sign.specs.Fields.{Field, AreTags}
use Rattle.samr_level.specs.Levels.{own_boxes}
use Rattle.samr_trials_stages.proofs.covers.no_tags.Given as goal

abbrev pub invariant-each : goal.invariant-each
invariant-each l = (length l.all.items ≡ l.rank) × ((rank : ℕ) (own : List Field) → slice_get l.all.items rank ≡ Some own → AreTags (own_boxes rank l.fn.level) (λ x. false) own)
